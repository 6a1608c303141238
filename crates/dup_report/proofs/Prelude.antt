-- The names from elsewhere that the proofs of this crate cite, passed on from one place. Declares nothing.
pub use Rattle.std.proofs.Common.{IfSome, List, [], ap, arith, false, inr, length, refl, rules, subst, ℕ, ⊎_elim, ◌++◌, ◌∙◌, ◌∷◌, ◌≡◌, ◌≤◌}
pub use Rattle.outside.specs.Count.{RoseBy}
pub use Rattle.entry_pages.specs.declared.entries.Entry.{Entry}
pub use Rattle.flat_list.specs.Spelling.{max_entries}
pub use Rattle.tree_dup.proofs.Few.{grouping_is_few}
pub use Rattle.tree_dup.specs.Grouping.{IsByBytes, IsGrouping}
pub use Rattle.tree_dup.specs.Told.{Grouping}
pub use Rattle.tool_words.specs.Asked.{DupAsked, roots}
pub use Rattle.tool_words.specs.Limits.{WithinDup}
pub use Rattle.tool_text.specs.NoteOrder.{AreInOrder, NothingToOrder}
pub use Rattle.run_report.specs.Sides.{Side, side_of, side_with}
pub use Rattle.run_report.specs.declared.reports.Report.{Report}
pub use Rattle.run_report.specs.declared.stops.Stop.{Stop}
pub use Rattle.run_entries.proofs.Sided.{stats_told}
pub use Rattle.run_entries.specs.Entries.{Walked}
pub use Rattle.run_entries.specs.Fine.{FineWalksNameNothing, FineWalksStopForMemory, IsFineSide, StillCounts}
pub use Rattle.run_entries.specs.Naming.{path_notes}
pub use Rattle.dup_report.specs.Grouping.{FindsGroups, FineDup, ReportsDup, StopsDup, dup_asked}
pub use Rattle.dup_report.specs.Laws.{FineDupSucceeds}
