use Rattle.tree_sync.proofs.Prelude.{◌&&◌, ◌∙◌, ap, sym, nat_eq, is_some, pointwise, list_any_at, Entry, IsHere, here}
use Rattle.tree_sync.proofs.dividing.is_there.Goals as goal

pub returns-then-is_told_top : goal.returns-then-is_told_top
returns-then-is_told_top c =
    let side = c.args.list.now in
    let e = c.entry.result.now in
    let at : IsHere side c.loop-cursor.cursor.1 e c.advance.new.self =
    here side c.loop-cursor.cursor c.advance.new.self e c.in_ok-advance.field-0 c.loop-cursor.invariant.of_list c.in_ok-advance.ensures.passed
    c.if-branch.true c.entry.ensures.at
    in
    let P = λ (x : Entry). pointwise nat_eq x.path c.args.top.now && is_some x.stat in
    sym (list_any_at P side c.loop-cursor.cursor.1 e at.inside (ap P at.is ∙ (sym c.is_told_top.ensures ∙ c.if-is_told_top.true)))
