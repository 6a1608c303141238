-- The names from elsewhere that the contracts of this crate cite, passed on from one place. Declares nothing.
pub use Rattle.std.specs.Prelude.{IfErr, IfOk, IfSome, OnOk, [], false, filter, is_some, length, not}
pub use Rattle.tree_sync.specs.Syncing.{SameOutside}
pub use Rattle.tool_words.specs.Limits.{WithinSync}
pub use Rattle.tool_text.specs.Synced.{synced_line}
pub use Rattle.run_report.specs.Prelude.{AreInOrder, CommonWithin, RoseBy, note_lines, nothing_lent, side_of}
pub use Rattle.run_entries.specs.Both.{StopsEitherWalk, WalksBoth}
