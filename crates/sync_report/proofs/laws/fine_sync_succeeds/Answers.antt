use Rattle.sync_report.proofs.Succeeds.{sync_succeeds}
use Rattle.sync_report.proofs.laws.fine_sync_succeeds.Goals as goal

pub returns : goal.returns
returns c = sync_succeeds (record {
  names = c.fine_walks_name_nothing.ensures;
  stops = c.fine_walks_stop_for_memory.ensures;
  order = c.nothing_to_order.ensures;
  done = c.done_names_nothing.ensures;
  still = c.still_counts.ensures;
  unique = c.roots_are_unique.ensures;
  ascends = c.walk_ascends.ensures;
  acts = record {
    chosen = record {
      tells = c.entries_are_told.ensures;
      lists = c.walk_lists_all.ensures;
      under = c.nodes_are_under_directories.ensures;
      paths = c.nodes_have_paths.ensures;
    };
    recursive = c.walk_is_recursive.ensures;
    copied = c.fine_entries_are_copied.ensures;
    long = c.targets_are_long.ensures;
    go = c.whole_choices_go.ensures;
  };
})
