use Rattle.ring_core.proofs.Prelude.{◌≡◌, ◌+◌, take, sym, subst, ap, ◌∙◌, refl, Bool, true, false, cond, count_by, sum_by, arith, bool_byte, sum_by_more}
use Rattle.ring_core.proofs.Prelude.{take_all, started, queued_in, on_way_in, WorldInvariant, refused, after, after_all, is_handle, pushed}
use Rattle.ring_core.proofs.RunLemmas.{IsRun-take_more, after_all-take_more, WorldInvariant-started, WorldInvariant-after_all, nothing_left}
use Rattle.ring_core.proofs.StringLemmas.{strings, strings-started, strings-after_all}
use Rattle.ring_core.proofs.runs.check_run.Goals as goal

byte_is : (b : Bool) → bool_byte b ≡ cond b 1 0
byte_is true = refl
byte_is false = refl

pub loop-at-preserved : goal.loop-at-preserved
loop-at-preserved c =
    let events = c.args.events.now in
    let world = started c.args.n c.args.starts in
    let at = c.loop-at.at in
    let event = c.index-events-at.result in
    record {
      legal = IsRun-take_more events world at event c.loop-at-test.true c.index-events-at.is c.loop-at.invariant.legal
          (ap (λ w. refused w event) (sym c.loop-at.invariant.reached) ∙ sym c.in_default.ensures.reason);
      reached = c.in_default.ensures.ok ∙ ap (λ w. after w event) c.loop-at.invariant.reached
          ∙ sym (after_all-take_more events world at event c.loop-at-test.true c.index-events-at.is);
      counted =
          let before = count_by is_handle (take at events) in
          let byte : bool_byte c.is_handle.result ≡ cond (is_handle event) 1 0 = byte_is c.is_handle.result ∙ ap (λ b. cond b 1 0) c.is_handle.ensures in
          ap (λ n. n + bool_byte c.is_handle.result) c.loop-at.invariant.counted ∙ ap (λ n. before + n) byte
          ∙ sym (sum_by_more (λ e. cond (is_handle e) 1 0) events at event c.loop-at-test.true
          ∙ ap (λ e. before + cond (is_handle e) 1 0) (sym c.index-events-at.is));
    }

pub returns-clause-nothing_left : goal.returns-clause-nothing_left
returns-clause-nothing_left c =
    let events = take c.loop-at.at c.args.events.now in
    let world = started c.args.n c.args.starts in
    let kept : WorldInvariant c.loop-at.world = subst WorldInvariant (sym c.loop-at.invariant.reached)
    (WorldInvariant-after_all events world c.loop-at.invariant.legal (WorldInvariant-started c.args.n c.args.starts)) in
    rw c.verdict.ensures (nothing_left c.loop-at.world kept)

pub returns-clause-balance : goal.returns-clause-balance
returns-clause-balance c =
    let events = take c.loop-at.at c.args.events.now in
    let world = started c.args.n c.args.starts in
    let whole : events ≡ c.args.events.now = take_all c.loop-at.at c.args.events.now c.loop-at-test.false in
    let start = strings-started c.args.n c.args.starts c.requires.one in
    let run = strings-after_all events world c.loop-at.invariant.legal in
    let same : queued_in c.loop-at.world.0 + on_way_in c.loop-at.world.0 ≡ strings (after_all world events).0 =
    ap (λ w. strings w.0) c.loop-at.invariant.reached in
    let counted = c.loop-at.invariant.counted in
    let pushes = ap (sum_by pushed) whole in
    rw c.verdict.ensures (omega arith)
