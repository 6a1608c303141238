use Rattle.compare_report.proofs.Prelude.{◌≡◌, ℕ, ◌&&◌, not, List, ap, arith, subst, sym, ◌∙◌, pointwise, list_any, nat_eq, below_of, Entry, picks_but}
use Rattle.compare_report.proofs.Prelude.{IsPassed, IsHere, here, step, whole, next_below}
use Rattle.compare_report.proofs.Picked.{next_by_path, picked_more}
use Rattle.compare_report.proofs.picking.add_picked.Goals as goal

pub seek-at_here-requires-clause-passed : goal.seek-at_here-requires-clause-passed
seek-at_here-requires-clause-passed c =
    let at = here c.args.entries.now c.loop-cursor.cursor c.advance.new.self c.entry-entry.result.now c.in_ok-advance.field-0
    c.loop-cursor.invariant.of_entries c.in_ok-advance.ensures.passed c.if-branch.true c.entry-entry.ensures.at in
    let passed = c.loop-cursor.invariant.wanted.1 c.entry-entry.result.now at.inside in
    subst (IsPassed c.args.wanted.now c.loop-cursor.at) (ap (λ x. below_of x.path c.args.top.now) at.is ∙ sym c.in_ok-below.ensures) passed

pub seek-past_here-requires-clause-passed : goal.seek-past_here-requires-clause-passed
seek-past_here-requires-clause-passed c =
    let at = here c.args.entries.now c.loop-cursor.cursor c.advance.new.self c.entry-entry.result.now c.in_ok-advance.field-0
    c.loop-cursor.invariant.of_entries c.in_ok-advance.ensures.passed c.if-branch.true c.entry-entry.ensures.at in
    subst (λ x. IsPassed c.args.but.now c.loop-cursor.past x.path) at.is (c.loop-cursor.invariant.but.1 c.entry-entry.result.now at.inside)

pub loop-cursor-preserved : goal.loop-cursor-preserved
loop-cursor-preserved c =
    let side = c.args.entries.now in
    let top = c.args.top.now in
    let e = c.entry-entry.result.now in
    let new = c.advance.new.self in
    let old = c.loop-cursor in
    let at : IsHere side old.cursor.1 e new =
    here side old.cursor new e c.in_ok-advance.field-0 old.invariant.of_entries c.in_ok-advance.ensures.passed c.if-branch.true c.entry-entry.ensures.at
    in
    let wanted : IsPassed c.args.wanted.now c.seek-at_here.result.0 (below_of e.path top) =
    subst (IsPassed c.args.wanted.now c.seek-at_here.result.0) c.in_ok-below.ensures c.seek-at_here.ensures.passed
    in
    let found =
    c.seek-at_here.ensures.found ∙ ap (λ b. list_any (pointwise nat_eq b) c.args.wanted.now) c.in_ok-below.ensures
    in
    let picked : (c.seek-at_here.result.1 && not c.seek-past_here.result.1) ≡ picks_but top c.args.wanted.now c.args.but.now e =
    λ i. found i && not (c.seek-past_here.ensures.found i)
    in
    record {
      of_entries = whole side old.cursor.1 e new at;
      inside = omega (arith, step side old.cursor.1 e new at, at.inside);
      so_far =
          picked_more (picks_but top c.args.wanted.now c.args.but.now) side c.args.list.now old.list _ old.cursor.1 e new
          (c.seek-at_here.result.1 && not c.seek-past_here.result.1) at old.invariant.so_far picked c.in_ok-add_if.ensures;
      wanted = next_below c.below_keeps_order.ensures top side old.cursor.1 e new c.args.wanted.now c.seek-at_here.result.0 at
          c.requires.side.ascends c.requires.side.within wanted;
      but = next_by_path side old.cursor.1 e new c.args.but.now c.seek-past_here.result.0 at c.requires.side.ascends c.seek-past_here.ensures.passed;
    }
