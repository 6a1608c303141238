-- The names from elsewhere that the proofs of this crate cite, passed on from one place. Declares nothing.
pub use Rattle.std.proofs.Common.{Bool, Global, List, None, Option, Some, Vec, [], add-zero, ap, append_assoc, arith, cond, drop, eqb, false, get_or, inl, inr}
pub use Rattle.std.proofs.Common.{length, map, min, not, refl, rules, subst, suc, sym, take, true, zero, zero-add, ℕ, ◌&&◌, ◌++◌, ◌+◌, ◌-◌, ◌<◌, ◌^◌, ◌||◌, ◌∙◌}
pub use Rattle.std.proofs.Common.{◌∷◌, ◌≡◌, ◌≤◌, ◌⊎◌}
pub use Rattle.std.proofs.Math.Seq.{get_or-append_seam, split_at}
pub use Rattle.std.proofs.lemmas.Bool.{and_parts, false_from_ne_true, false≢true, or_parts}
pub use Rattle.std.proofs.lemmas.Bool.Decides.{nat_tests}
pub use Rattle.std.proofs.lemmas.Fmt.{decimal_digit, decimal_nonempty, first_decimal}
pub use Rattle.std.proofs.lemmas.List.{append-nil, append_cancel_left, drop-map, drop_all, drop_more, get_or-map, get_or_append_left, get_or_at, get_or_default}
pub use Rattle.std.proofs.lemmas.List.{length-append, length-map, length-take-le, map-append, take_all, take_more}
pub use Rattle.std.proofs.lemmas.List.Concat.{flat_map-append}
pub use Rattle.std.proofs.lemmas.List.Elements.{All-from_recursion, All-push, All-weaker, Contains-append_left, Contains-push, recursion_from_All}
pub use Rattle.std.proofs.lemmas.List.FromFn.{get_or-enumerate_from, length-enumerate_from}
pub use Rattle.std.proofs.lemmas.List.Sorted.{All-permutation, Contains-permutation, IsPermutation-map, IsPermutation-sym, answers_always, ranks_by, sorted_far}
pub use Rattle.std.proofs.lemmas.List.Sorted.{sum_by-IsPermutation}
pub use Rattle.std.proofs.lemmas.List.Sums.{sum_by-append, sum_by-cons}
pub use Rattle.std.proofs.lemmas.Option.{IfSome_then}
pub use Rattle.std.proofs.lemmas.Result.{on_ok_weaker}
pub use Rattle.std.specs.Cmp.Lexicographic.{bytes_decides, pointwise}
pub use Rattle.std.specs.FinMap.{get, insert, remove}
pub use Rattle.std.specs.Fmt.{decimal}
pub use Rattle.std.specs.List.{All, AllByRecursion, Contains, count_by, enumerate_from, flat_map, list_any, range_with_len}
pub use Rattle.std.specs.List.Sorted.{IsPermutation, IsSortedBy, IsSortedByKey}
pub use Rattle.std.specs.Option.{option_copied}
pub use Rattle.std.specs.Ordering.{is_lt, nat_cmp, ordering_reverse, ordering_then}
pub use Rattle.std.specs.Prelude.{Err, IfErr, IfNone, IfSome, IsTrue, Ok, OnErr, OnOk, Result, codes, is_none, is_some, nat_eq, nat_lt, ⊤, ◌==◌}
pub use Rattle.std.specs.declared.cmp.Ordering.{Ordering}
pub use Rattle.std.specs.declared.cmp.Ordering.TheVariants.{Equal, Greater, Less}
pub use Rattle.path_text.proofs.Joined.{joined_length}
pub use Rattle.path_text.proofs.Parents.{parent_joined}
pub use Rattle.path_text.proofs.Preorder.{precedes}
pub use Rattle.path_text.proofs.Within.{some_bytes}
pub use Rattle.path_text.specs.Order.{byte_rank, front, path_cmp}
pub use Rattle.path_text.specs.Path.{is_name, parent_of, refusal}
pub use Rattle.path_text.specs.Total.{path_cmp_same, path_cmp_total}
pub use Rattle.path_text.specs.declared.paths.Path.{Path}
pub use Rattle.outside.proofs.Names.{all_weaker}
pub use Rattle.outside.proofs.Saved.{put_one, removed_one}
pub use Rattle.outside.specs.Count.{RoseBy, StoodStill}
pub use Rattle.outside.specs.Tree.{Files, Node, is_dir, is_file, is_root}
pub use Rattle.outside.specs.Whole.{HoldsFile, can_save}
pub use Rattle.outside.specs.Writes.{Answers, SameBut, may_change, new_file, remove_file_refusal}
pub use Rattle.outside.specs.declared.plots.WriteError.{WriteError}
pub use Rattle.entry_pages.specs.declared.entries.Entry.{Entry}
pub use Rattle.flat_list.proofs.Decoded.{lt_is}
pub use Rattle.flat_list.proofs.Sourced.{Stepped, entry_left}
pub use Rattle.flat_list.specs.Spelling.{IsRefused, IsTooLong, RefusesExactly, Spells, SpellsOne, paths}
pub use Rattle.flat_list.specs.declared.versions.Version.TheVariants.{Two}
pub use Rattle.circle_lists.proofs.Places.{differ, folder_differs, parent_of_file, same_name}
pub use Rattle.circle_lists.proofs.Told.{stops_later}
pub use Rattle.circle_lists.specs.Checkpoint.{AllFit, HasPlace, HoldLists, HoldsList, Reached, ReadsBack, SameButFiles, StopsReading, StopsReadingAt}
pub use Rattle.circle_lists.specs.Checkpoint.{StopsWritingAt, file_name, file_path}
pub use Rattle.circle_lists.specs.Spelling.{IsRank}
pub use Rattle.circle_lists.specs.declared.errors.ListsError.{ListsError}
pub use Rattle.tree_walk.proofs.Covers.{in_line, not_both}
pub use Rattle.tree_walk.proofs.InBytes.{is_one}
pub use Rattle.tree_walk.proofs.Inside.{begins, begins-itself, begins-length, begins-less, in_itself, in_trans, is_in_is}
pub use Rattle.tree_walk.proofs.Lists.{all_map}
pub use Rattle.tree_walk.proofs.Rooted.{before_later}
pub use Rattle.tree_walk.specs.Roots.{is_in}
pub use Rattle.tool_words.specs.Asked.{input}
pub use Rattle.run_report.specs.Sides.{Side, side_of}
pub use Rattle.run_report.specs.declared.stops.Stop.{Stop}
pub use Rattle.run_entries.proofs.Fine.{no_fault}
pub use Rattle.run_entries.specs.Entries.{IsRead}
pub use Rattle.run_entries.specs.Fine.{FinePlacesStopForMemory}
pub use Rattle.run_entries.specs.Saving.{SameButAll, SameButOutputs, Saved, output_of}
pub use Rattle.run_entries.specs.Stopping.{StopsListing, StopsSaving}
pub use Rattle.run_entries.specs.declared.saving.Output.{Output}
pub use Rattle.checkpoints.specs.Kept.{HoldsEntries, HoldsNewest, IsKept, checkpoint_paths, list_path}
pub use Rattle.checkpoints.specs.Laws.{CheckpointsAreOne, FineReadsStopForMemory, FineWritesStopForMemory, IsFineKept, IsFree}
pub use Rattle.checkpoints.specs.Lefts.{numbered}
pub use Rattle.checkpoints.specs.Passing.{AllBehind, ArePassed, Behind, IsBelow, IsLowest, IsPlace, IsTop, IsUpTo, Numbered, StartsBehind, ahead_of}
pub use Rattle.checkpoints.specs.Passing.{closed_paths, closed_with, covered, first_of, lower_of, lowest_with, moved, passed_of, paths_in, starts_at, starts_in}
pub use Rattle.checkpoints.specs.Passing.{top_with}
pub use Rattle.checkpoints.specs.Placing.{ArePlaced, IsFirstMisplaced, clashes, is_misplaced, is_open}
pub use Rattle.checkpoints.specs.PrivateRemoval.{IsMeant}
pub use Rattle.checkpoints.specs.Stopping.{HasMisplaced, HasNoRanks, IsCleared, IsGone, IsTorn, StopsWriting, WroteNoList, WroteNoRanks, WroteTorn}
pub use Rattle.checkpoints.specs.Stopping.{stop_of_lists}
pub use Rattle.checkpoints.specs.declared.placing.Left.{Left}
