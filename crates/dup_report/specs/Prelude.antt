-- The names from elsewhere that the contracts of this crate cite, passed on from one place. Declares nothing.
pub use Rattle.std.specs.List.{sum_by}
pub use Rattle.std.specs.List.Sorted.{IsStrictlySortedBy}
pub use Rattle.std.specs.Prelude.{IfErr, IfOk, IfSome, length}
pub use Rattle.tree_cmp.specs.Readers.{StatsTold}
pub use Rattle.tree_dup.specs.Grouping.{IsGrouping}
pub use Rattle.tool_words.specs.Asked.{roots}
pub use Rattle.tool_words.specs.Limits.{WithinDup}
pub use Rattle.tool_text.specs.Groups.{file_count, groups_text}
pub use Rattle.run_report.specs.Prelude.{AreInOrder, CommonWithin, RoseBy, max_entries, note_lines, path_cmp, paths, side_of}
pub use Rattle.run_entries.specs.Entries.{Walked}
pub use Rattle.run_entries.specs.Stopping.{StopsListing}
