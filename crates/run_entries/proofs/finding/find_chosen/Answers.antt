use Rattle.run_entries.proofs.Prelude.{rules, ◌≡◌, ◌++◌, map, filter, subst, Some, true, is_shaped, is_selected, AreInOrder, start_in, choice_in, side_of}
use Rattle.run_entries.proofs.Prelude.{side_with, newer_than, failures_in, Listed, Tells}
use Rattle.run_entries.proofs.Chosen.{chosen_ascends, chosen_holds}
use Rattle.run_entries.proofs.Found.{stops_after}
use Rattle.run_entries.proofs.finding.find_chosen.Goals as goal

pub returns-clause-finds : goal.returns-clause-finds
returns-clause-finds g c =
    let start = start_in c.args.start in
    let found = c.in_ok-list.field-0 in
    let looks = c.in_ok-looks.looks.items in
    let between = g.G.Plot.count c.look_at_each.new.files in
    let after = side_of g.G.Plot c.list_from.new.files in
    let told =
    subst
    (λ t. (listed : Listed start found.list (side_with t between) after)
    × Tells c.args.common.now start found.list (side_with t between) after listed found.account)
    c.look_at_each.ensures.same c.in_ok-list.ensures.told
    in
    let tests = c.args.choice.tests.items ++ map (λ l. newer_than l.seen) looks in
    let chooses : c.in_ok-chosen.chosen ≡ filter (is_selected tests c.args.now) found.list = search rules in
    let names : AreInOrder (failures_in looks found.list) c.in_ok-notes.notes.items = search rules in
    record {
      looks = looks;
      entries = found.list;
      survey = record {
        between = between;
        looked = c.in_ok-looks.ensures.looks;
        later = c.in_ok-list.ensures.count.kept;
        listed = told.0;
        few = c.in_ok-list.ensures.few;
      };
      tells = told.1;
      chooses = chooses;
      names = names;
    }

pub returns-in_err-list-clause-stopped : goal.returns-in_err-list-clause-stopped
returns-in_err-list-clause-stopped g c =
    let before = side_of g.G.Plot c.args.files.now in
    let between = side_of g.G.Plot c.look_at_each.new.files in
    let after = side_of g.G.Plot c.list_from.new.files in
    let stops =
    stops_after (start_in c.args.start) (Some (choice_in c.args.choice)) before between after c.in_ok-looks.looks.items _ c.look_at_each.ensures.same
    c.in_ok-looks.ensures.looks c.list_from.ensures.count.kept c.in_err-list.ensures.stopped
    in search rules

pub returns-clause-ascend : goal.returns-clause-ascend
returns-clause-ascend g c =
    let found = c.in_ok-list.field-0 in
    let tests = c.args.choice.tests.items ++ map (λ l. newer_than l.seen) c.in_ok-looks.looks.items in
    let chooses : c.in_ok-chosen.chosen ≡ filter (is_selected tests c.args.now) found.list = search rules in
    chosen_ascends (is_selected tests c.args.now) found.list c.in_ok-chosen.chosen chooses c.in_ok-list.ensures.ascend

pub returns-clause-shaped : goal.returns-clause-shaped
returns-clause-shaped g c =
    let found = c.in_ok-list.field-0 in
    let tests = c.args.choice.tests.items ++ map (λ l. newer_than l.seen) c.in_ok-looks.looks.items in
    let chooses : c.in_ok-chosen.chosen ≡ filter (is_selected tests c.args.now) found.list = search rules in
    chosen_holds (λ e. is_shaped e ≡ true) (is_selected tests c.args.now) found.list c.in_ok-chosen.chosen chooses c.in_ok-list.ensures.shaped
