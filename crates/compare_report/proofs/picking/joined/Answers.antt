use Rattle.compare_report.proofs.Prelude.{◌≡◌, ◌++◌, [], filter, ap, ◌∙◌, picks_but}
use Rattle.std.specs.List.Sorted.{IsStrictlySortedBy}
use Rattle.compare_report.proofs.Both.{given_ascend, by_steps}
use Rattle.compare_report.proofs.picking.joined.Goals as goal

pub add_picked-requires-clause-but : goal.add_picked-requires-clause-but
unfolding IsStrictlySortedBy
add_picked-requires-clause-but c = tt

pub add_picked-requires-2-clause-but : goal.add_picked-requires-2-clause-but
add_picked-requires-2-clause-but c =
    let top = c.args.sides.now.left_top in
    let first : c.add_picked.new.list ≡ filter (picks_but top c.args.of_left.now []) c.args.sides.now.left =
    c.in_ok-add_picked.ensures ∙ ap (λ l. l ++ filter (picks_but top c.args.of_left.now []) c.args.sides.now.left) c.make-list.ensures
    in
    given_ascend top c.args.of_left.now c.args.sides.now.left c.add_picked.new.list c.deref.result.now first (c.deref.ensures.value ∙ c.in_ok-given.ensures)
    c.requires.left.ascends

pub returns : goal.returns
returns c =
    let top = c.args.sides.now.left_top in
    let first : c.add_picked.new.list ≡ filter (picks_but top c.args.of_left.now []) c.args.sides.now.left =
    c.in_ok-add_picked.ensures ∙ ap (λ l. l ++ filter (picks_but top c.args.of_left.now []) c.args.sides.now.left) c.make-list.ensures
    in
    by_steps top c.args.sides.now.right_top c.args.of_left.now c.args.of_right.now c.args.sides.now.left c.args.sides.now.right
    c.add_picked.new.list c.deref.result.now
    c.add_picked-2.new.list c.sort_path.new.self (record {
      first = first;
      given_are = c.deref.ensures.value ∙ c.in_ok-given.ensures;
      second = c.in_ok-add_picked-2.ensures;
      moved = c.sort_path.ensures.all;
      sorted = c.in_ok-sort_path.ensures.sorted;
      left_ascends = c.requires.left.ascends;
      right_ascends = c.requires.right.ascends;
    })
