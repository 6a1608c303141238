-- The names from elsewhere that the contracts of this crate cite, passed on from one place. Declares nothing.
pub use Rattle.std.specs.List.{count_by}
pub use Rattle.std.specs.Prelude.{All, IfErr, IfOk, IfSome, Ok, [], false, is_some, length}
pub use Rattle.level_work.specs.Counts.{is_done}
pub use Rattle.tree_copy.specs.Copying.{SameButTargets, bytes_copied}
pub use Rattle.tree_copy.specs.Placing.{IsPair}
pub use Rattle.tool_words.specs.Asked.{roots}
pub use Rattle.tool_words.specs.Limits.{WithinCopy}
pub use Rattle.run_report.specs.Prelude.{AreInOrder, CommonWithin, RoseBy, max_entries, note_lines, nothing_lent, side_of}
pub use Rattle.run_entries.specs.Entries.{Walked}
pub use Rattle.run_entries.specs.Stopping.{StopsListing}
