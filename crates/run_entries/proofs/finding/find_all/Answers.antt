use Rattle.run_entries.proofs.Prelude.{rules, ◌≤◌, [], None, refl, sym, subst, start_in, side_of, side_with, Tells}
use Rattle.run_entries.proofs.Found.{no_looks, stops_after}
use Rattle.run_entries.proofs.finding.find_all.Goals as goal

pub returns-clause-finds : goal.returns-clause-finds
returns-clause-finds g c =
    let tree = g.G.Plot.tree c.args.files.now in
    let count = g.G.Plot.count c.args.files.now in
    let found = c.in_ok-list.field-0 in
    let all = c.in_ok-of_all in
    let start = start_in c.args.start in
    let after = side_of g.G.Plot c.list_from.new.files in
    let most : count ≤ 18446744073709551615 = search rules in
    record {
      looks = [];
      entries = found.list;
      survey = record {
        between = count;
        looked = no_looks tree count most;
        later = c.in_ok-list.ensures.count.kept;
        listed = c.in_ok-list.ensures.told.0;
        few = c.in_ok-list.ensures.few;
      };
      tells =
          subst (Tells c.args.common.now start found.list (side_with tree count) after c.in_ok-list.ensures.told.0) (sym all.ensures.account)
          c.in_ok-list.ensures.told.1;
      chooses = all.ensures.chosen;
      names = all.ensures.names;
    }

pub returns-in_err-list-clause-stopped : goal.returns-in_err-list-clause-stopped
returns-in_err-list-clause-stopped g c =
    let before = side_of g.G.Plot c.args.files.now in
    let after = side_of g.G.Plot c.list_from.new.files in
    let most : before.count ≤ 18446744073709551615 = search rules in
    let stops =
    stops_after (start_in c.args.start) None before before after [] _ refl (no_looks before.tree before.count most) c.list_from.ensures.count.kept
    c.in_err-list.ensures.stopped
    in search rules
