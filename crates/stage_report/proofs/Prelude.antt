-- The names from elsewhere that the proofs of this crate cite, passed on from one place. Declares nothing.
pub use Rattle.std.proofs.Common.{Any, Bool, IfSome, List, None, Option, Some, [], ap, arith, cond, eqb, false, get_or, inl, inr, length, length-append, map}
pub use Rattle.std.proofs.Common.{min, refl, rules, subst, suc, sym, take, true, zero, ℕ, ⊎_elim, ◌&&◌, ◌++◌, ◌+◌, ◌-◌, ◌<◌, ◌^◌, ◌||◌, ◌∙◌, ◌∷◌, ◌≡◌, ◌≤◌, ◌⊎◌}
pub use Rattle.std.proofs.lemmas.Bool.{and_parts, cases_lt, false≢true, or_parts}
pub use Rattle.std.proofs.lemmas.Bool.Decides.{nat_tests}
pub use Rattle.std.proofs.lemmas.List.{get_or-map, get_or_append_left, length-map}
pub use Rattle.std.proofs.lemmas.List.Concat.{length-flat_map}
pub use Rattle.std.proofs.lemmas.List.Elements.{All-append, All-from_recursion, All-nil, Contains-get_or, recursion_from_All}
pub use Rattle.std.proofs.lemmas.List.Sorted.{All-permutation, IsPermutation-refl, length_permutation, sum_by-IsPermutation}
pub use Rattle.std.proofs.lemmas.List.Sums.{sum_by-append, sum_by-cons}
pub use Rattle.std.specs.Cmp.Lexicographic.{bytes_decides, pointwise}
pub use Rattle.std.specs.FinMap.{get}
pub use Rattle.std.specs.List.{All, AllByRecursion, Contains, count_by, flat_map, list_any, sum_by}
pub use Rattle.std.specs.List.Sorted.{IsPermutation, IsSortedByKey, IsStrictlySortedBy}
pub use Rattle.std.specs.Option.{is_some, option_map, option_to_list}
pub use Rattle.std.specs.Ordering.{is_lt, ordering_reverse}
pub use Rattle.std.specs.Prelude.{Err, IfErr, IsErrAnd, Ok, Result, Vec, nat_eq, nat_lt, not, ◌==◌}
pub use Rattle.std.specs.declared.alloc.Global.{Global}
pub use Rattle.std.specs.declared.cmp.Ordering.TheVariants.{Less}
pub use Rattle.path_text.specs.Order.{front, path_cmp}
pub use Rattle.path_text.specs.Total.{path_cmp_total}
pub use Rattle.path_text.specs.declared.paths.Path.{Path}
pub use Rattle.outside.proofs.Names.{all_weaker}
pub use Rattle.outside.specs.Count.{StoodStill}
pub use Rattle.outside.specs.Tree.{Files, IsTree}
pub use Rattle.outside.specs.Whole.{HoldsFile}
pub use Rattle.path_looks.proofs.Told.{none_counted}
pub use Rattle.path_looks.specs.declared.looks.Look.{Look}
pub use Rattle.entry_pages.specs.Entries.{is_shaped}
pub use Rattle.entry_pages.specs.declared.entries.Entry.{Entry}
pub use Rattle.flat_list.proofs.Pieces.{all_join}
pub use Rattle.flat_list.specs.Spelling.{Spells, max_entries}
pub use Rattle.flat_list.specs.declared.ordering.Field.{Field}
pub use Rattle.circle_lists.specs.Checkpoint.{HoldLists}
pub use Rattle.circle_lists.specs.declared.errors.ListsError.{ListsError}
pub use Rattle.circle_run.specs.Left.{all_left}
pub use Rattle.tree_walk.proofs.AnyOrder.{moved}
pub use Rattle.tree_walk.proofs.Covers.{covers, covers-itself, one, some_covers, to_apart}
pub use Rattle.tree_walk.proofs.Cuts.{handled_by, kids, pushed_by}
pub use Rattle.tree_walk.proofs.Inside.{at_or_under, begins, in_trans, is_in_is}
pub use Rattle.tree_walk.proofs.Lawful.{none_failed}
pub use Rattle.tree_walk.proofs.Lists.{all_flat, swapped}
pub use Rattle.tree_walk.proofs.Once.{rises}
pub use Rattle.tree_walk.proofs.Ordered.{in_order}
pub use Rattle.tree_walk.proofs.Recursive.{walk_is}
pub use Rattle.tree_walk.proofs.Restarts.{kids_over, none_over, over}
pub use Rattle.tree_walk.proofs.Same.{same_paths, unequal}
pub use Rattle.tree_walk.proofs.Standing.{In, each_in, in_list, of_all}
pub use Rattle.tree_walk.specs.Cut.{CutGoesOn, IfCut, IsCut, IsCutFound, IsJoined, IsTooMany, found_in}
pub use Rattle.tree_walk.specs.Found.{IsFound, IsWalkOf}
pub use Rattle.tree_walk.specs.Roots.{Apart, IsRoots, RootsAreUnique, is_in, is_in_some}
pub use Rattle.tree_walk.specs.Traced.{IsProgressTo}
pub use Rattle.tree_walk.specs.Walk.{WalkWithoutFaultsIsFine, all_told, answer_in, answers_in, children_of, entry_of, paths_of, told, walk, weight_of}
pub use Rattle.tree_walk.specs.declared.reports.WalkReport.{WalkReport}
pub use Rattle.cut_laws.proofs.Local.{stands_covered}
pub use Rattle.cut_laws.specs.Local.{CutsAreLocal, RestartFindsTheWalk}
pub use Rattle.cut_laws.specs.Sorts.{SortsAreUnique}
pub use Rattle.tool_words.specs.Asked.{ListAsked, StageAsked, roots}
pub use Rattle.tool_words.specs.Limits.{Valid, WithinStage}
pub use Rattle.tool_words.specs.declared.commands.Common.{Common}
pub use Rattle.tool_text.specs.Lines.{lines_of}
pub use Rattle.tool_text.specs.NoteOrder.{AreInOrder, NothingToOrder, OrderIsUnique}
pub use Rattle.tool_text.specs.Notes.{mark_whys, notes_of, number_whys, whys_of}
pub use Rattle.tool_text.specs.declared.noting.Note.{Note}
pub use Rattle.run_report.specs.Sides.{Side, side_of, side_with}
pub use Rattle.run_report.specs.declared.reports.Report.{Report}
pub use Rattle.run_report.specs.declared.stops.Stop.{Stop}
pub use Rattle.run_entries.specs.Choosing.{chosen_of, newer_in, tests_in}
pub use Rattle.run_entries.specs.Entries.{InOrder, Listed, Walked, notes_text}
pub use Rattle.run_entries.specs.Fine.{FinePlacesStopForMemory, IsFineWalk}
pub use Rattle.run_entries.specs.Naming.{failures_in, on_side}
pub use Rattle.run_entries.specs.Saving.{SameButAll, SameButOutputs, Saved, output_of}
pub use Rattle.run_entries.specs.Stopping.{StopsSaving}
pub use Rattle.run_entries.specs.declared.accounts.Account.{Account}
pub use Rattle.checkpoints.proofs.Numbers.{at_map, number_more}
pub use Rattle.checkpoints.specs.Kept.{IsCheckpoint, IsKept, checkpoint_paths, list_path}
pub use Rattle.checkpoints.specs.Laws.{CheckpointsAreOne, FineReadsStopForMemory, FineWritesStopForMemory, IsFree}
pub use Rattle.checkpoints.specs.Placing.{ArePlaced, clashes, is_misplaced, is_open}
pub use Rattle.checkpoints.specs.Stopping.{StopsReading, StopsWriting, WroteNoList, WroteNoRanks, stop_of_lists}
pub use Rattle.list_report.proofs.Succeeds.{has_place}
pub use Rattle.list_report.specs.Lists.{ReportsList, summary_text}
pub use Rattle.stage_report.specs.Laws.{BeginsWalk, CheckpointsAreCuts, FineStageSucceeds, StagesPrintTheWalk, StoppedStagesAreKept}
pub use Rattle.stage_report.specs.Private.{IsBeside, IsStage, IsStageOf, IsWritable, StopsWalk, Walks, WalksNot, list_in}
pub use Rattle.stage_report.specs.Stages.{Begins, Begun, FindsTooMany, FineStage, IsCutOff, IsFineBeginning, IsFineCheckpoint, IsStoppable, LeavesStage}
pub use Rattle.stage_report.specs.Stages.{ReportsStage, StopsBeginning, StopsKeeping, StopsSavingStage, StopsStage, WasCut, WasWhole, all_of, kept_paths}
pub use Rattle.stage_report.specs.Stages.{stage_asked}
pub use Rattle.stage_report.specs.declared.walking.Stage.{Stage}
