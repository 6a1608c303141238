-- The names from elsewhere that the contracts of this crate cite, passed on from one place. Declares nothing.
pub use Rattle.std.specs.List.{count_by}
pub use Rattle.std.specs.Prelude.{All, IfErr, IfOk, IfSome, Some, [], is_some, length, true}
pub use Rattle.level_work.specs.Counts.{is_done}
pub use Rattle.tree_remove.specs.Removing.{SameButChosen}
pub use Rattle.tool_words.specs.Asked.{choice_in, roots}
pub use Rattle.tool_words.specs.Limits.{Lower, WithinRemove}
pub use Rattle.tool_text.specs.Lines.{lines_of}
pub use Rattle.run_report.specs.Prelude.{AreInOrder, CommonWithin, RoseBy, note_lines, nothing_lent, paths, side_of}
pub use Rattle.run_entries.specs.Entries.{Finds}
pub use Rattle.run_entries.specs.Naming.{removal_notes}
pub use Rattle.run_entries.specs.Stopping.{StopsFinding}
