-- The names from elsewhere that the proofs of this crate cite, passed on from one place. Declares nothing.
pub use Rattle.std.proofs.Common.{List, ap, inl, inr, map, refl, rules, subst, sym, true, ℕ, ⊎_elim, ◌∙◌, ◌≡◌, ◌⊎◌}
pub use Rattle.std.specs.Option.{option_to_list}
pub use Rattle.std.specs.Prelude.{Err, IfOk, IfSome, None, Ok, Option, Result, Some}
pub use Rattle.std.specs.String.{string_bytes}
pub use Rattle.outside.specs.Count.{StoodStill}
pub use Rattle.tool_words.specs.Asked.{Asked, asked_by, compare, copy, dup, list, remove, stage, sync, test}
pub use Rattle.tool_words.specs.Limits.{Within, WordsAskWithinLimits}
pub use Rattle.tool_words.specs.Refusals.{refusal_in}
pub use Rattle.tool_words.specs.Words.{reading}
pub use Rattle.tool_words.specs.declared.commands.Command.{Command}
pub use Rattle.tool_words.specs.declared.errors.Refusal.{Refusal}
pub use Rattle.tool_words.specs.declared.errors.WordsError.{WordsError}
pub use Rattle.run_report.specs.Sides.{Side, Stream, side_of, stream_of}
pub use Rattle.run_report.specs.Stops.{Succeeds, Told, ToldRefusal, status_of}
pub use Rattle.run_report.specs.declared.reports.Report.{Report}
pub use Rattle.run_report.specs.declared.statuses.Status.{Status}
pub use Rattle.run_report.specs.declared.stops.Stop.{Stop}
pub use Rattle.list_report.specs.Laws.{FineListSucceeds, FineTestSucceeds}
pub use Rattle.stage_report.proofs.Leaves.{leaves_all}
pub use Rattle.stage_report.specs.Laws.{FineStageSucceeds}
pub use Rattle.compare_report.specs.Laws.{FineCompareSucceeds}
pub use Rattle.dup_report.specs.Laws.{FineDupSucceeds}
pub use Rattle.copy_report.specs.Laws.{FineCopySucceeds}
pub use Rattle.sync_report.proofs.Steps.{unchanged}
pub use Rattle.sync_report.specs.Laws.{FineSyncSucceeds}
pub use Rattle.remove_report.specs.Laws.{FineRemoveSucceeds}
pub use Rattle.mfu_top.specs.Run.{EndedWell, EndsInTime, Fine, FineRunsSucceed, Leaves, Reports, RunSucceeds, Stops, is_apart, may_stop}
