use Rattle.list_report.proofs.Succeeds.{test_succeeds}
use Rattle.list_report.proofs.laws.fine_test_succeeds.Goals as goal

pub returns : goal.returns
returns c = test_succeeds c.made_walk_is_fine.ensures c.fine_finds_name_nothing.ensures
