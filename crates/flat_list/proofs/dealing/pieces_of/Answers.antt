use Rattle.flat_list.proofs.Prelude.{rules, arith, take, ap, ◌∙◌, ◌+◌, ◌%◌, ℕ, List, map, range_with_len, take_all, Entry, dealt}
use Rattle.flat_list.proofs.Dealt.{Turn, Holds, pieces_kept, same_list, as_many}
use Rattle.flat_list.proofs.Turns.{passes_at, turn_at, next_at}
use Rattle.flat_list.proofs.dealing.pieces_of.Goals as goal

pub index_mut-requires : goal.index_mut-requires
index_mut-requires c =
    let many = as_many (λ j. dealt c.args.n j _) (λ (piece : List Entry). piece) c.loop-at.pieces.items c.args.n (same_list c.loop-at.invariant.shared) in
    omega (arith, many, c.loop-at.pieces.ok.0, c.requires)

pub loop-at-preserved : goal.loop-at-preserved
loop-at-preserved c =
    let xs = c.args.list.now in
    let at = c.loop-at.at in
    let n = c.args.n in
    let p = passes_at xs c.loop-at.at c.loop-at.cursor c.advance.new.self c.in_ok-advance.field-0 c.entry.result.now c.loop-at.invariant.here
    (omega arith) c.in_ok-advance.ensures.answer c.in_ok-advance.ensures.passed c.entry.ensures.at in
    let turn : Turn xs at c.entry.result.now = turn_at at (ap (λ (v : List Entry × ℕ). v.1) c.loop-at.invariant.here) p in
    let holds : Holds (λ j. dealt n j (take at xs)) (λ (piece : List Entry). piece) n (at % n) c.loop-at.pieces.items c.index_mut.result.now =
    record { listed = same_list c.loop-at.invariant.shared; below = omega (arith, c.requires); is = search rules } in
    record {
      here = next_at p ∙ ap (λ (v : List Entry × ℕ). (xs, v.1 + 1)) c.loop-at.invariant.here;
      shared = pieces_kept turn holds c.add.new.self (omega (arith, c.requires)) c.in_ok-add.ensures.ok;
    }

pub returns : goal.returns
returns c =
    let xs = c.args.list.now in
    let n = c.args.n in
    let all = take_all c.loop-at.at xs (omega (arith, c.len-at-end.ensures, c.loop-at-test.false)) in
    c.loop-at.invariant.shared ∙ ap (λ (l : List Entry). map (λ j. dealt n j l) (range_with_len 0 n)) all
