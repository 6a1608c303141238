-- The names from elsewhere that the proofs of this crate cite, passed on from one place. Declares nothing.
pub use Rattle.std.proofs.Common.{Bool, IfSome, List, None, Option, Some, [], add-one, ap, append_assoc, arith, cond, drop, false, filter, get_or, inl, inr}
pub use Rattle.std.proofs.Common.{length, map, not, refl, rules, subst, suc, sym, take, true, zero, ℕ, ⊎_elim, ◌&&◌, ◌++◌, ◌+◌, ◌-◌, ◌<◌, ◌||◌, ◌∙◌, ◌∷◌, ◌≡◌}
pub use Rattle.std.proofs.Common.{◌≤◌}
pub use Rattle.std.proofs.Math.ListN.{get_or-map}
pub use Rattle.std.proofs.Math.Seq.{drop-cons, take-suc}
pub use Rattle.std.proofs.lemmas.Bool.{false≢true}
pub use Rattle.std.proofs.lemmas.List.{drop_all, length-map, map-append, take-append-drop}
pub use Rattle.std.proofs.lemmas.List.Elements.{All-append, All-filter, All-from_recursion, All-push, filter-append, recursion_from_All}
pub use Rattle.std.proofs.lemmas.List.Folds.{list_any-append}
pub use Rattle.std.proofs.lemmas.List.Sorted.{All-permutation, sum_by-IsPermutation}
pub use Rattle.std.proofs.lemmas.List.Sums.{sum_by-append, sum_by-cons, sum_by_more, sum_by_more_le}
pub use Rattle.std.proofs.lemmas.Map.Keys.{sorted_from_all_adjacent}
pub use Rattle.std.proofs.lemmas.Option.{slice_get_cases}
pub use Rattle.std.specs.Cmp.Lexicographic.{bytes_decides, pointwise}
pub use Rattle.std.specs.List.{All, AllByRecursion, AllZip, list_any, sum_by}
pub use Rattle.std.specs.List.Sorted.{IsPermutation, IsSortedByKey, IsStrictlySortedBy}
pub use Rattle.std.specs.Option.{is_some}
pub use Rattle.std.specs.Ordering.{is_eq, is_lt, ordering_reverse}
pub use Rattle.std.specs.Prelude.{Err, IfOk, Ok, Result, nat_eq, slice_get}
pub use Rattle.std.specs.declared.cmp.Ordering.{Ordering}
pub use Rattle.std.specs.declared.cmp.Ordering.TheVariants.{Equal, Greater, Less}
pub use Rattle.path_text.specs.Graft.{below_of}
pub use Rattle.path_text.specs.Order.{path_cmp}
pub use Rattle.path_text.specs.Total.{path_cmp_same, path_cmp_ties, path_cmp_total}
pub use Rattle.outside.specs.Count.{RoseBy, StoodStill}
pub use Rattle.outside.specs.Tree.{Files}
pub use Rattle.outside.specs.Whole.{can_save}
pub use Rattle.entry_pages.specs.Entries.{is_shaped}
pub use Rattle.entry_pages.specs.declared.entries.Entry.{Entry}
pub use Rattle.flat_list.specs.Spelling.{paths}
pub use Rattle.tree_walk.proofs.Same.{higher}
pub use Rattle.tree_cmp.proofs.Passing.{IsHere, follow, here, next_below, none_some, passed_later, some_same, step, taken, whole}
pub use Rattle.tree_cmp.specs.Passes.{IsNext, IsPassed}
pub use Rattle.tree_cmp.specs.Rows.{Findings, IsComparison}
pub use Rattle.tree_cmp.specs.Sides.{side}
pub use Rattle.tree_cmp.specs.declared.conditions.Condition.{Condition}
pub use Rattle.tree_cmp.specs.declared.rows.Missed.{Missed}
pub use Rattle.tree_cmp.specs.declared.rows.Row.{Row}
pub use Rattle.tool_words.specs.Asked.{CompareAsked, roots}
pub use Rattle.tool_words.specs.Limits.{Valid, WithinCompare}
pub use Rattle.tool_words.specs.declared.commands.Want.{Want}
pub use Rattle.tool_text.specs.NoteOrder.{AreInOrder, NothingToOrder}
pub use Rattle.run_report.specs.Sides.{Side, side_of, side_with}
pub use Rattle.run_report.specs.declared.reports.Report.{Report}
pub use Rattle.run_report.specs.declared.stops.Stop.{Stop}
pub use Rattle.run_entries.proofs.Chosen.{order_kept}
pub use Rattle.run_entries.specs.Both.{WalksBoth}
pub use Rattle.run_entries.specs.Fine.{FinePlacesStopForMemory, FineWalksNameNothing, FineWalksStopForMemory, IsFineSide}
pub use Rattle.run_entries.specs.Saving.{SameButAll, SameButOutputs, Saved}
pub use Rattle.run_entries.specs.Stopping.{StopsSaving}
pub use Rattle.run_entries.specs.declared.both.Sides.{Sides}
pub use Rattle.run_entries.specs.declared.saving.Output.{Output}
pub use Rattle.compare_report.specs.Comparing.{Compares, FineCompare, LeavesCompare, ReportsCompare, StopsCompare, compare_asked, missed_notes}
pub use Rattle.compare_report.specs.Laws.{FineCompareSucceeds}
pub use Rattle.compare_report.specs.Outputs.{AreOutputs, IsJoined, IsSelected, given_paths, is_given, is_new, picks}
pub use Rattle.compare_report.specs.PrivatePicks.{picks_but}
pub use Rattle.compare_report.specs.PrivateSteps.{IsPrepared}
pub use Rattle.compare_report.specs.declared.comparing.Prepared.{Prepared}
