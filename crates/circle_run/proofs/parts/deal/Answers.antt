use Rattle.circle_run.proofs.Prelude.{ℕ, ◌+◌, ◌%◌, length, sym, ap, ◌∙◌, arith, mod-lt, mod-eq_of_lt, length_push, length-map-range_with_len, dealt_to}
use Rattle.circle_run.proofs.Dealt.{turn_more, none_dealt, dealt_more}
use Rattle.circle_run.proofs.parts.deal.Goals as goal

pub loop-path-init : goal.loop-path-init
loop-path-init c = record { dealt = none_dealt c.args.ranks c.in_ok-batches.batches.items c.in_ok-batches.ensures; turn = sym (mod-eq_of_lt c.requires) }

pub index_mut-requires : goal.index_mut-requires
index_mut-requires c =
    let below = mod-lt (length c.loop-path.yielded) {m = c.args.ranks} c.requires in
    let turn = c.loop-path.invariant.turn in
    let long = ap length c.loop-path.invariant.dealt ∙ length-map-range_with_len (dealt_to c.args.ranks c.loop-path.yielded) 0 c.args.ranks in
    omega arith

pub loop-path-preserved : goal.loop-path-preserved
loop-path-preserved c =
    let below = mod-lt (length c.loop-path.yielded) {m = c.args.ranks} c.requires in
    let turn = c.loop-path.invariant.turn in
    record {
      dealt = dealt_more c.args.ranks c.loop-path.next c.loop-path.yielded c.in-Some.path c.loop-path.batches.items c.index_mut.result.now
          c.push.new.self turn (omega arith) c.loop-path.invariant.dealt c.index_mut.ensures.value c.in_ok-push.ensures.ok;
      turn = ap (λ (k : ℕ). (k + 1) % c.args.ranks) turn ∙ turn_more c.args.ranks (length c.loop-path.yielded)
          ∙ ap (λ (k : ℕ). k % c.args.ranks) (sym (length_push c.loop-path.yielded c.in-Some.path));
    }
