use Rattle.find_tests.proofs.Prelude.{rules, arith, ◌≡◌, List, [], filter, length, sym, subst, count_by, nat_tests, filter_same, nil_from_length, is_selected}
use Rattle.find_tests.proofs.Prelude.{Test}
use Rattle.std.proofs.Common.{is_some}
use Rattle.find_tests.proofs.Selected.{all_selected}
use Rattle.find_tests.proofs.selecting.select_from.Goals as goal

pub returns-then-have_stats : goal.returns-then-have_stats
returns-then-have_stats c =
    let none : c.args.tests.now ≡ [] = nil_from_length _ (grind (arith, nat_tests, c.is_empty.ensures, c.if-is_empty.true)) in
    let many : count_by (λ e. is_some e.stat) c.args.list ≡ length c.args.list =
    grind (arith, nat_tests, c.have_stats.ensures, c.if-have_stats.true) in
    let Kept : List Test → Type 0 = λ tests. c.args.list ≡ filter (is_selected tests c.args.now) c.args.list in
    subst Kept (sym none) (sym (all_selected c.args.now c.args.list many))

pub returns : goal.returns
returns c = filter_same _ _ _ (λ x b f' k. search rules) _ _ c.in_ok-retain.ensures.ok
