use Rattle.remove_report.proofs.Prelude.{choice_in}
use Rattle.remove_report.proofs.Found.{can_be_removed, are_there}
use Rattle.remove_report.proofs.choosing.find_lower.Goals as goal

pub returns-clause-can : goal.returns-clause-can
returns-clause-can g c =
    let chosen = can_be_removed _ c.args.paths.items
    (choice_in c.args.tests) _ _ _ _ _ _ c.requires.lower c.in_ok-found.ensures.finds c.in_ok-found.ensures.ascend in
    record {
      chosen = chosen;
      there = are_there _ c.args.paths.items (choice_in c.args.tests) _ _ _ _ _ _ c.entries_are_told.ensures chosen c.in_ok-found.ensures.finds;
    }
