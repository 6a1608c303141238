use Rattle.find_tests.proofs.Prelude.{arith, ◌≤◌, ◌∙◌, List, length, filter, ap, subst, nat_tests, take_all, Entry, is_selected}
use Rattle.find_tests.proofs.selecting.select.Goals as goal

pub returns : goal.returns
returns c =
    let i = c.loop-cursor.invariant in
    let over : length c.loop-cursor.cursor.0 ≤ c.loop-cursor.cursor.1 = grind (arith, nat_tests, c.in_ok-advance.ensures.answer, c.if-branch.false) in
    let all : length c.args.list.now ≤ c.loop-cursor.cursor.1 = subst (λ (es : List Entry). length es ≤ c.loop-cursor.cursor.1) i.of_list over in
    i.so_far ∙ ap (filter (is_selected c.args.tests.now c.args.now)) (take_all _ _ all)
