use Rattle.remove_report.proofs.Succeeds.{remove_succeeds}
use Rattle.remove_report.proofs.laws.fine_remove_succeeds.Goals as goal

pub returns : goal.returns
returns c = remove_succeeds (record {
  finds = c.fine_finds_name_nothing.ensures;
  stops = c.fine_finds_stop_for_memory.ensures;
  walks = c.fine_walks_name_nothing.ensures;
  order = c.nothing_to_order.ensures;
  told = c.entries_are_told.ensures;
  go = c.whole_choices_go.ensures;
  done = c.done_names_nothing.ensures;
  still = c.still_counts.ensures;
})
