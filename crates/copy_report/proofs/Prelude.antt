-- The names from elsewhere that the proofs of this crate cite, passed on from one place. Declares nothing.
pub use Rattle.std.proofs.Common.{Bool, Err, IfSome, List, None, Ok, Option, Result, Some, [], ap, arith, cond, false, get_or, inl, inr, length, map, min, refl}
pub use Rattle.std.proofs.Common.{rules, subst, sym, take, true, ℕ, ⊎_elim, ◌&&◌, ◌++◌, ◌+◌, ◌-◌, ◌<◌, ◌^◌, ◌||◌, ◌∙◌, ◌∷◌, ◌≡◌, ◌≤◌, ◌⊎◌}
pub use Rattle.std.proofs.lemmas.Bool.{and_parts, false≢true, or_cases, or_left, or_parts, or_right}
pub use Rattle.std.proofs.lemmas.List.{length-map}
pub use Rattle.std.proofs.lemmas.List.Elements.{All-filter, All-from_recursion, recursion_from_All}
pub use Rattle.std.specs.Cmp.Lexicographic.{bytes_decides, pointwise}
pub use Rattle.std.specs.FinMap.{get}
pub use Rattle.std.specs.List.{All, AllByRecursion, Contains, filter, flat_map, list_any}
pub use Rattle.std.specs.List.Sorted.{IsStrictlySortedBy}
pub use Rattle.std.specs.Prelude.{is_none, is_some, nat_eq}
pub use Rattle.path_text.proofs.Carried.{grafted_itself, parent_moves_too}
pub use Rattle.path_text.proofs.Fronts.{fronts_within}
pub use Rattle.path_text.proofs.Parents.{parent_under}
pub use Rattle.path_text.proofs.Within.{never_under_itself, same_or_under, under_no_root, under_within, within_up}
pub use Rattle.path_text.specs.Graft.{below_of, grafted}
pub use Rattle.path_text.specs.Order.{is_under, is_within, path_cmp}
pub use Rattle.path_text.specs.Path.{parent_of, refusal}
pub use Rattle.outside.proofs.Names.{all_weaker}
pub use Rattle.outside.specs.Asked.{Asks}
pub use Rattle.outside.specs.Count.{RoseBy, capped}
pub use Rattle.outside.specs.Tree.{Body, Files, IsTree, Node, dir, file, is_dir, is_root, kind_of, link, link_at, other, text_of}
pub use Rattle.outside.specs.declared.trees.Stat.{Stat}
pub use Rattle.entry_pages.specs.Entries.{is_kind, is_of}
pub use Rattle.entry_pages.specs.declared.entries.Entry.{Entry}
pub use Rattle.entry_pages.specs.declared.entries.Mark.{Mark}
pub use Rattle.flat_list.specs.Spelling.{max_entries, paths}
pub use Rattle.tree_walk.proofs.Lists.{both}
pub use Rattle.tree_walk.proofs.Standing.{In, above, in_list, of_all}
pub use Rattle.tree_walk.specs.Roots.{is_in, is_in_some}
pub use Rattle.tree_walk.specs.Told.{EntriesAreTold, EntriesHaveParents, IsTold, has_dir, target_by}
pub use Rattle.tree_walk.specs.Walk.{all_told, answers_in, entry_of, walk}
pub use Rattle.level_work.specs.declared.items.Fate.{Fate}
pub use Rattle.tree_copy.specs.Copying.{CanCopy, Copied, FitsTree, SameButTargets, ends_of, is_target, is_untold, target_of, treated}
pub use Rattle.tree_copy.specs.Laws.{FineEntriesAreCopied, IsFineEntry, TargetsAreLong}
pub use Rattle.tree_copy.specs.Placing.{IsCounted, IsPair, IsWhy, PlaceStopped, PlacedAreApart, overlap, placed, placed_over}
pub use Rattle.tree_copy.specs.declared.pairs.Pair.{Pair}
pub use Rattle.tree_copy.specs.declared.pairs.PlaceError.{PlaceError}
pub use Rattle.tool_words.specs.Asked.{CopyAsked, roots}
pub use Rattle.tool_words.specs.Limits.{WithinCopy}
pub use Rattle.tool_text.specs.NoteOrder.{AreInOrder, NothingToOrder}
pub use Rattle.tool_text.specs.Notes.{note_lines}
pub use Rattle.run_report.specs.Sides.{Side, side_of, side_with}
pub use Rattle.run_report.specs.declared.reports.Report.{Report}
pub use Rattle.run_report.specs.declared.stops.Stop.{Stop}
pub use Rattle.run_entries.proofs.Fine.{of_told, some_of}
pub use Rattle.run_entries.proofs.Sided.{stat_told}
pub use Rattle.run_entries.specs.Entries.{Walked}
pub use Rattle.run_entries.specs.Fine.{DoneNamesNothing, FineWalksAreWhole, FineWalksNameNothing, FineWalksStopForMemory, IsFineSide, StillCounts}
pub use Rattle.run_entries.specs.Naming.{copy_notes}
pub use Rattle.copy_report.specs.Copying.{Copies, FineCopy, LeavesCopy, ReportsCopies, ReportsCopy, StopsCopy, copied_line, copy_asked, copy_failures}
pub use Rattle.copy_report.specs.Laws.{FineCopySucceeds}
pub use Rattle.copy_report.specs.Placing.{IsNowhere, Places, Surveys}
pub use Rattle.copy_report.specs.PrivateSteps.{ArePlaced, StopsPlacing, TellsCopies}
