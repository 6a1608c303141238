-- The names from elsewhere that the proofs of this crate cite, passed on from one place. Declares nothing.
pub use Rattle.std.proofs.Common.{Bool, IfSome, List, None, Option, Some, [], add-one, ap, arith, cond, drop, false, filter, get_or, inl, inr, is_some, length}
pub use Rattle.std.proofs.Common.{length-append, map, nat_eq, not, refl, subst, suc, sym, take, true, zero, ℕ, ⊎_elim, ◌&&◌, ◌++◌, ◌+◌, ◌-◌, ◌<◌, ◌||◌, ◌∙◌}
pub use Rattle.std.proofs.Common.{◌∷◌, ◌≡◌, ◌≤◌, ◌⊎◌}
pub use Rattle.std.proofs.Math.Seq.{drop-cons, take-suc}
pub use Rattle.std.proofs.lemmas.Bool.{and_from, and_parts, false_from_ne_true, false≢true, not-false, or_from, or_left, or_parts, or_right}
pub use Rattle.std.proofs.lemmas.Bool.Decides.{nat_tests}
pub use Rattle.std.proofs.lemmas.List.{drop_all, get_or-map, get_or_default, length-map, map-append, take_all}
pub use Rattle.std.proofs.lemmas.List.Elements.{All-contains, All-filter, All-from_recursion, All-map, All-push, Contains-append_left, Contains-append_right}
pub use Rattle.std.proofs.lemmas.List.Elements.{filter-append, recursion_from_All}
pub use Rattle.std.proofs.lemmas.List.Folds.{Any-from_list_any, list_any-append, list_any_at, list_any_none}
pub use Rattle.std.specs.Cmp.Lexicographic.{bytes_decides, pointwise}
pub use Rattle.std.specs.FinMap.{get}
pub use Rattle.std.specs.List.{All, AllByRecursion, Contains, count_by, find, list_any, zip}
pub use Rattle.std.specs.List.Sorted.{IsStrictlySortedBy}
pub use Rattle.std.specs.Option.{option_map}
pub use Rattle.std.specs.Ordering.{is_eq, ordering_reverse}
pub use Rattle.std.specs.Prelude.{IsTrue, is_none, nat_lt, slice_get, ◌==◌}
pub use Rattle.std.specs.declared.cmp.Ordering.{Ordering}
pub use Rattle.std.specs.declared.cmp.Ordering.TheVariants.{Equal, Greater, Less}
pub use Rattle.path_text.proofs.Carried.{grafted_itself, parent_moves_too}
pub use Rattle.path_text.proofs.Moved.{below_keeps_order, below_undoes_graft}
pub use Rattle.path_text.proofs.Parents.{parent_under}
pub use Rattle.path_text.proofs.Parts.{below_made, graft_undoes_below}
pub use Rattle.path_text.proofs.Within.{itself, root_is, same_or_under, tops_are_nested, under_longer, under_no_root, under_within, within_longer, within_root}
pub use Rattle.path_text.specs.Graft.{BelowKeepsOrder, below_of, grafted}
pub use Rattle.path_text.specs.Order.{IsPreorder, UnderIsContiguous, is_under, is_within, path_cmp}
pub use Rattle.path_text.specs.Path.{parent_of, refusal}
pub use Rattle.path_text.specs.Total.{path_cmp_same, path_cmp_ties, path_cmp_total}
pub use Rattle.outside.specs.Asked.{Asks}
pub use Rattle.outside.specs.Count.{RoseBy}
pub use Rattle.outside.specs.Parts.{IsTreeIn}
pub use Rattle.outside.specs.Tree.{Body, Files, IsTree, Node, NodesHavePaths, bytes_of, content, dir, file, is_dir, is_dir_body, is_root, kind_of, link}
pub use Rattle.outside.specs.Tree.{link_at, other, size_of, stat_of, text_of}
pub use Rattle.outside.specs.declared.trees.Kind.{Kind}
pub use Rattle.outside.specs.declared.trees.Stat.{Stat}
pub use Rattle.entry_pages.specs.Entries.{is_fine, is_kind, is_of}
pub use Rattle.entry_pages.specs.declared.entries.Entry.{Entry}
pub use Rattle.entry_pages.specs.declared.entries.Mark.{Mark}
pub use Rattle.flat_list.proofs.Turns.{no_more}
pub use Rattle.flat_list.specs.Spelling.{paths}
pub use Rattle.tree_cmp.proofs.OneRow.{same_number}
pub use Rattle.tree_cmp.proofs.Passing.{IsHere, at_place, filtered_more, follow_below, here, next_below, none_some, some_same, sought_here, step, taken, whole}
pub use Rattle.tree_cmp.specs.Passes.{IsNext, IsPassed}
pub use Rattle.tree_cmp.specs.Readers.{HaveCauses, ShowsChange, ShowsFailure, StatsTold}
pub use Rattle.tree_cmp.specs.Rows.{Findings, IsComparison, IsContent, IsRow, are_files, are_links, exist_of, is_missed, is_read, kinds, same_bytes, sizes}
pub use Rattle.tree_cmp.specs.Rows.{stat_at, texts, two_of}
pub use Rattle.tree_cmp.specs.Sides.{IsSide, Side, entry_at, is_closed, is_gone, is_hidden, is_partial, side}
pub use Rattle.tree_cmp.specs.declared.rows.Exist.{Exist}
pub use Rattle.tree_cmp.specs.declared.rows.Row.{Row}
pub use Rattle.tree_cmp.specs.declared.rows.Two.{Two}
pub use Rattle.level_work.proofs.Stores.{done_is}
pub use Rattle.level_work.specs.Counts.{is_done, is_failed}
pub use Rattle.level_work.specs.declared.items.Fate.{Fate}
pub use Rattle.tree_remove.proofs.Answers.{no_far}
pub use Rattle.tree_remove.specs.Removing.{AreChosen, AreThere, SameButChosen, WasChosen}
pub use Rattle.tree_copy.specs.Copying.{AreEarly, CanCopy, Copied, FitsTree, IsCopied, IsCopyOf, SameButTargets, body_of, clashes, due, is_target, is_untold}
pub use Rattle.tree_copy.specs.Copying.{or_else, parent_failed, target_of, targets_of, treated}
pub use Rattle.tree_copy.specs.Placing.{overlap}
pub use Rattle.tree_copy.specs.declared.pairs.Pair.{Pair}
pub use Rattle.tree_sync.specs.Laws.{AgreesAfter, AreAlike, IsEqual, IsFullList, MayHaveMore, SyncMakesEqual, SyncedRowsAgree, WasCompared, WasSynced}
pub use Rattle.tree_sync.specs.Laws.{below_top, is_noted, is_under_some, named, noted, undone}
pub use Rattle.tree_sync.specs.PrivateSearch.{IsBehind, IsCleared}
pub use Rattle.tree_sync.specs.PrivateSteps.{Begun, IsDivision, IsPlan, Known, is_chosen_off, masks_of, results_of, row_paths}
pub use Rattle.tree_sync.specs.Results.{Results}
pub use Rattle.tree_sync.specs.Syncing.{AreCopied, AreRemoved, AreTold, FitsSync, ReadsShow, SameOutside, Synced, agrees, chosen_of, copied_of, has_other}
pub use Rattle.tree_sync.specs.Syncing.{has_parent, is_both, is_chosen, is_common, is_copied, is_differ, is_foreign, is_kept, is_masked, is_only_dest, is_there}
pub use Rattle.tree_sync.specs.Syncing.{row_at}
pub use Rattle.tree_sync.specs.declared.dividing.Division.{Division}
pub use Rattle.tree_sync.specs.declared.planning.Plan.{Plan}
