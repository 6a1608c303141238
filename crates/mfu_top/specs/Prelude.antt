-- The names from elsewhere that the contracts of this crate cite, passed on from one place. Declares nothing.
pub use Rattle.std.specs.Prelude.{Err, IfErr, IfOk, IfSome, IsErr, None, Ok, [], map, string_bytes, true, ℕ}
pub use Rattle.outside.specs.Count.{StoodStill}
pub use Rattle.tool_words.specs.Asked.{asked_by}
pub use Rattle.tool_words.specs.Limits.{Within}
pub use Rattle.tool_words.specs.Refusals.{refusal_in}
pub use Rattle.tool_words.specs.Words.{reading}
pub use Rattle.run_report.specs.Ends.{Grew, GrewByLine, GrewBySome, Printed}
pub use Rattle.run_report.specs.Lines.{memory_line, refusal_line}
pub use Rattle.run_report.specs.Prelude.{RoseBy, nothing_lent, side_of}
pub use Rattle.run_report.specs.Sides.{stream_of}
pub use Rattle.run_report.specs.Statuses.{has_reason}
pub use Rattle.run_report.specs.Stops.{status_of, stop_line}
pub use Rattle.run_report.specs.declared.reports.Report.{Report}
pub use Rattle.run_report.specs.declared.stops.Stop.{Stop}
