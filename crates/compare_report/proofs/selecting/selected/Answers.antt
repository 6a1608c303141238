use Rattle.compare_report.proofs.Prelude.{◌≡◌, true, false, filter, subst, sym, ◌∙◌, IsStrictlySortedBy, path_cmp, is_shaped, picks, given_paths, IsJoined}
use Rattle.std.proofs.Common.{IfOk}
use Rattle.compare_report.proofs.Chosen.{given_ascend, if_joined}
use Rattle.compare_report.proofs.selecting.selected.Goals as goal

pub joined-requires-clause-of_left : goal.joined-requires-clause-of_left
joined-requires-clause-of_left c =
    subst (IsStrictlySortedBy path_cmp) (sym (c.deref.ensures.value ∙ c.in_ok-of_left.ensures))
    (given_ascend c.args.expr.now false c.args.compared.now.rows c.requires.rows)

pub joined-requires-clause-of_right : goal.joined-requires-clause-of_right
joined-requires-clause-of_right c =
    subst (IsStrictlySortedBy path_cmp) (sym (c.deref-2.ensures.value ∙ c.in_ok-of_right.ensures))
    (given_ascend c.args.expr.now true c.args.compared.now.rows c.requires.rows)

pub returns-clause-selected : goal.returns-clause-selected
returns-clause-selected c =
    let sides = c.args.sides.now in
    let left = c.deref.ensures.value ∙ c.in_ok-of_left.ensures in
    let right = c.deref-2.ensures.value ∙ c.in_ok-of_right.ensures in
    subst (λ ps. IfOk c.joined.result (IsJoined (filter (picks sides.left_top ps) sides.left)
    (filter (picks sides.right_top (given_paths c.args.expr.now true c.args.compared.now.rows)) sides.right))) left
    (subst (λ qs. IfOk c.joined.result (IsJoined (filter (picks sides.left_top c.deref.result.now) sides.left)
    (filter (picks sides.right_top qs) sides.right))) right c.joined.ensures)

pub returns-clause-shaped : goal.returns-clause-shaped
returns-clause-shaped c =
    let sides = c.args.sides.now in
    if_joined c.joined.result (λ e. is_shaped e ≡ true) (picks sides.left_top c.deref.result.now)
    (picks sides.right_top c.deref-2.result.now) sides.left sides.right
    c.joined.ensures c.requires.left_shaped c.requires.right_shaped
