use Rattle.dup_report.proofs.Succeeds.{dup_succeeds}
use Rattle.dup_report.proofs.laws.fine_dup_succeeds.Goals as goal

pub returns : goal.returns
returns c = dup_succeeds c.fine_walks_name_nothing.ensures c.fine_walks_stop_for_memory.ensures c.nothing_to_order.ensures c.still_counts.ensures
