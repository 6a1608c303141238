-- The names from elsewhere that the contracts of this crate cite, passed on from one place. Declares nothing.
pub use Rattle.std.specs.Prelude.{IfErr, IfOk, List, [], length}
pub use Rattle.tool_text.specs.Lines.{lines_of}
pub use Rattle.run_report.specs.Prelude.{CommonWithin, Entry, RoseBy, nothing_lent, side_of, summary_of}
pub use Rattle.run_entries.specs.Entries.{InOrder, notes_text}
