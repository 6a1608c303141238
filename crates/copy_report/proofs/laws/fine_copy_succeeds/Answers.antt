use Rattle.copy_report.proofs.Succeeds.{copy_succeeds}
use Rattle.copy_report.proofs.laws.fine_copy_succeeds.Goals as goal

pub returns : goal.returns
returns c = copy_succeeds (record {
  walks = c.fine_walks_name_nothing.ensures;
  whole = c.fine_walks_are_whole.ensures;
  stops = c.fine_walks_stop_for_memory.ensures;
  order = c.nothing_to_order.ensures;
  are_told = c.entries_are_told.ensures;
  long = c.targets_are_long.ensures;
  copied = c.fine_entries_are_copied.ensures;
  done = c.done_names_nothing.ensures;
  still = c.still_counts.ensures;
})
