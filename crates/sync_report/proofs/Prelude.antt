-- The names from elsewhere that the proofs of this crate cite, passed on from one place. Declares nothing.
pub use Rattle.std.proofs.Common.{Bool, Err, IfErr, IfSome, List, None, Ok, Option, Result, Some, [], ap, append-nil, append_assoc, arith, cond, false, filter}
pub use Rattle.std.proofs.Common.{get_or, inl, inr, length, length-append, map, min, nat_eq, not, refl, rules, subst, suc, sym, true, zero, ℕ, ⊎_elim, ◌&&◌}
pub use Rattle.std.proofs.Common.{◌++◌, ◌+◌, ◌-◌, ◌<◌, ◌^◌, ◌||◌, ◌∙◌, ◌∷◌, ◌≡◌, ◌≢◌, ◌≤◌, ◌⊎◌}
pub use Rattle.std.proofs.lemmas.Bool.{and_from, and_parts, false_from_ne_true, false≢true, not-true, or_cases, or_left, or_parts, or_right}
pub use Rattle.std.proofs.lemmas.Fn.{filter_same}
pub use Rattle.std.proofs.lemmas.List.Elements.{All-from_recursion, recursion_from_All}
pub use Rattle.std.proofs.lemmas.List.Folds.{list_any-append, list_any_at}
pub use Rattle.std.proofs.lemmas.List.Sums.{sum_by-cons}
pub use Rattle.std.specs.Cmp.Lexicographic.{bytes_decides, pointwise}
pub use Rattle.std.specs.FinMap.{get}
pub use Rattle.std.specs.List.{All, AllByRecursion, Contains, count_by, find, flat_map, list_any, sum_by}
pub use Rattle.std.specs.Option.{option_map}
pub use Rattle.std.specs.Prelude.{IsTrue, is_none, is_some, ◌==◌}
pub use Rattle.path_text.proofs.Moved.{below_undoes_graft}
pub use Rattle.path_text.proofs.Parts.{before_made, begins, below_made, front_other, graft_undoes_below, grafted_names}
pub use Rattle.path_text.proofs.Preorder.{front-joined, some_front}
pub use Rattle.path_text.proofs.Under.{IsUnder, is_under_by, names_under}
pub use Rattle.path_text.proofs.Within.{itself, not_one, same_or_under, some_bytes, tops_are_nested, under_within, within_longer, within_root, within_up}
pub use Rattle.path_text.specs.Graft.{below_of, grafted}
pub use Rattle.path_text.specs.Order.{front, is_under, is_within}
pub use Rattle.path_text.specs.Path.{is_name, joined, parent_of, refusal}
pub use Rattle.outside.proofs.Names.{all_weaker, children_are_names}
pub use Rattle.outside.specs.Asked.{Asks}
pub use Rattle.outside.specs.Count.{RoseBy, StoodStill, capped}
pub use Rattle.outside.specs.Parts.{IsTreeIn, UnderDirectories}
pub use Rattle.outside.specs.Tree.{Body, Files, IsTree, Node, NodesHavePaths, dir, far_at, file, is_dir, is_dir_body, is_root, kind_of, link, link_at, names_in}
pub use Rattle.outside.specs.Tree.{other, stat_of, text_of}
pub use Rattle.outside.specs.declared.trees.Stat.{Stat}
pub use Rattle.entry_pages.proofs.Counted.{bit}
pub use Rattle.entry_pages.specs.Entries.{has_target, is_fine, is_kind, is_of, is_shaped, is_sized, shape_by}
pub use Rattle.entry_pages.specs.declared.entries.Entry.{Entry}
pub use Rattle.entry_pages.specs.declared.entries.Mark.{Mark}
pub use Rattle.flat_list.specs.Spelling.{max_entries, paths}
pub use Rattle.tree_walk.proofs.Inside.{in_itself}
pub use Rattle.tree_walk.proofs.Lawful.{walk_entries}
pub use Rattle.tree_walk.proofs.Lists.{both}
pub use Rattle.tree_walk.specs.Roots.{IsRoots, RootsAreUnique, is_in, is_in_some}
pub use Rattle.tree_walk.specs.Told.{EntriesAreTold, EntriesHaveParents, IsTold, StandsBy, has_dir, stat_by, target_by}
pub use Rattle.tree_walk.specs.Walk.{Answer, Answers, WalkAscends, WalkIsRecursive, WalkListsAll, all_told, answer_by, answer_in, answers_in, bare, children_of}
pub use Rattle.tree_walk.specs.Walk.{entry_of, is_told, list_failed, stat_failed, told, walk, weight, weight_of}
pub use Rattle.tree_cmp.proofs.Lists.{list_any-map}
pub use Rattle.tree_cmp.specs.Rows.{Findings, IsComparison, IsRow, exist_of, is_missed, kinds, stat_at, two_of}
pub use Rattle.tree_cmp.specs.Sides.{IsSide, entry_at, is_closed, is_gone, is_hidden, is_partial, side}
pub use Rattle.tree_cmp.specs.declared.rows.Row.{Row}
pub use Rattle.level_work.specs.Counts.{is_done, is_failed}
pub use Rattle.level_work.specs.declared.items.Fate.{Fate}
pub use Rattle.tree_remove.proofs.Removal.{not_none}
pub use Rattle.tree_remove.specs.Laws.{AreWhole, WholeChoicesGo}
pub use Rattle.tree_remove.specs.Removing.{Removed, WasChosen}
pub use Rattle.tree_copy.specs.Copying.{Copied, clashes, ends_of, is_untold, target_of, treated}
pub use Rattle.tree_copy.specs.Laws.{FineEntriesAreCopied, TargetsAreLong}
pub use Rattle.tree_copy.specs.Placing.{IsPair, overlap}
pub use Rattle.tree_copy.specs.declared.pairs.Pair.{Pair}
pub use Rattle.tree_copy.specs.declared.pairs.PlaceError.{PlaceError}
pub use Rattle.tree_sync.proofs.Both.{kind_eq, kind_is}
pub use Rattle.tree_sync.specs.Laws.{IsFullList, IsWhole, SyncedRowsAgree, below_top, is_noted, is_under_some, named, noted, undone}
pub use Rattle.tree_sync.specs.Placing.{IsLookCounted, IsSyncWhy, SyncPlaceStopped, sync_placed, sync_placed_over}
pub use Rattle.tree_sync.specs.Results.{Results}
pub use Rattle.tree_sync.specs.Syncing.{AreTold, CanSync, FitsSync, SameOutside, Synced, chosen_of, copied_of, has_other, has_parent, is_chosen, is_copied}
pub use Rattle.tree_sync.specs.Syncing.{is_differ, is_foreign, is_masked, is_only_dest, is_there, row_at}
pub use Rattle.tool_words.specs.Asked.{SyncAsked, input, roots}
pub use Rattle.tool_words.specs.Limits.{Valid, WithinSync}
pub use Rattle.tool_text.specs.NoteOrder.{AreInOrder, NothingToOrder}
pub use Rattle.tool_text.specs.Notes.{mark_whys, note_lines, notes_of, number_whys, whys_of}
pub use Rattle.tool_text.specs.Synced.{synced_line}
pub use Rattle.tool_text.specs.declared.noting.Note.{Note}
pub use Rattle.tool_text.specs.declared.noting.Why.{Why}
pub use Rattle.run_report.specs.Sides.{Side, side_of, side_with}
pub use Rattle.run_report.specs.declared.reports.Report.{Report}
pub use Rattle.run_report.specs.declared.stops.Stop.{Stop}
pub use Rattle.run_entries.proofs.Sided.{stat_told}
pub use Rattle.run_entries.specs.Both.{AreSides, StopsEitherWalk, WalksBoth}
pub use Rattle.run_entries.specs.Entries.{Walked}
pub use Rattle.run_entries.specs.Fine.{DoneNamesNothing, FineWalksNameNothing, FineWalksStopForMemory, StillCounts}
pub use Rattle.run_entries.specs.Naming.{copy_notes, copy_whys, notes_by, on_side, path_notes, removal_notes, removal_whys}
pub use Rattle.run_entries.specs.Stopping.{IsTooLongWalk, StopsListing}
pub use Rattle.run_entries.specs.declared.both.Sides.{Sides}
pub use Rattle.sync_report.specs.Laws.{FineSyncSucceeds}
pub use Rattle.sync_report.specs.Placing.{IsNowhere, Places, Surveys}
pub use Rattle.sync_report.specs.PrivateSteps.{IsPlaced, IsReady, MakesEqual, StopsPlacing}
pub use Rattle.sync_report.specs.Syncing.{AreEqualBut, FineSync, IsFineDest, IsFineEntry, LeavesSync, ReportsSync, ReportsSynced, StopsSync, Syncs, counts_of}
pub use Rattle.sync_report.specs.Syncing.{dest_notes, entry_notes, is_named, pair_of, says_absent, says_gone, sync_asked, sync_failures}
