use Rattle.compare_report.proofs.Succeeds.{compare_succeeds}
use Rattle.compare_report.proofs.laws.fine_compare_succeeds.Goals as goal

pub returns : goal.returns
returns c =
    compare_succeeds c.fine_walks_name_nothing.ensures c.fine_walks_stop_for_memory.ensures c.fine_places_stop_for_memory.ensures c.nothing_to_order.ensures
