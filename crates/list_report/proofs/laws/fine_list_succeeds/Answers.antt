use Rattle.list_report.proofs.Succeeds.{list_succeeds}
use Rattle.list_report.proofs.laws.fine_list_succeeds.Goals as goal

pub returns : goal.returns
returns c = list_succeeds c.fine_finds_name_nothing.ensures c.fine_finds_stop_for_memory.ensures c.fine_places_stop_for_memory.ensures
