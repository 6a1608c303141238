-- The names from elsewhere that the proofs of this crate cite, passed on from one place. Declares nothing.
pub use Rattle.sha2.specs.Hashers.{Holds256}
pub use Rattle.sha2.specs.Sha256.{sha256}
pub use Rattle.sha2.specs.declared.Sha256.{Sha256}
pub use Rattle.std.proofs.Common.{All, Bool, Equal, Err, Greater, IfOk, IfSome, IsPermutation, IsSorted, IsSortedBy, IsSortedByKey, Less, List, None, Ok, OnOk}
pub use Rattle.std.proofs.Common.{Option, Ordering, Result, Some, [], ap, append-nil, append_assoc, arith, cond, count_by, drop, eqb, false, filter, get_or}
pub use Rattle.std.proofs.Common.{if◌then◌else◌, is_lt, length, length-append, length-set, map, min, nat_cmp, nat_eq, nat_lt, not, refl, rules, set, slice_get}
pub use Rattle.std.proofs.Common.{subst, suc, sym, take, true, zero, ℕ, ◌&&◌, ◌++◌, ◌+◌, ◌-◌, ◌<◌, ◌==◌, ◌^◌, ◌||◌, ◌∙◌, ◌∷◌, ◌≡◌, ◌≤◌}
pub use Rattle.std.proofs.Math.Seq.{drop-append_seam, map-set_same, take-add, take-append_seam}
pub use Rattle.std.proofs.lemmas.Bool.{and_from, eq-eqb, eqb-true, false≢true, ltb-false, ne_eqb}
pub use Rattle.std.proofs.lemmas.Cmp.{nat_list_cmp_total, nat_list_eq_equiv}
pub use Rattle.std.proofs.lemmas.Grind.{common_steps}
pub use Rattle.std.proofs.lemmas.List.{drop-drop, drop-map, drop-take, get_or-drop, get_or-map, get_or-set_other, get_or-set_same, get_or-take, get_or_default}
pub use Rattle.std.proofs.lemmas.List.{length-drop, length-map, length-take-le, map-append, nil_from_length, take-append-drop, take-map, take-take, take_all}
pub use Rattle.std.proofs.lemmas.List.Concat.{flat_map-cons, length-flat_map}
pub use Rattle.std.proofs.lemmas.List.Elements.{All-append, All-cons, All-drop, All-filter, All-head, All-map, All-nil, All-push, All-set, All-tail, All-take}
pub use Rattle.std.proofs.lemmas.List.Elements.{filter_passes, recursion_from_All}
pub use Rattle.std.proofs.lemmas.List.Folds.{list_any_at}
pub use Rattle.std.proofs.lemmas.List.Sorted.{All-permutation, IsPermutation-map, IsPermutation-refl, IsPermutation-swap_remove, answers_always}
pub use Rattle.std.proofs.lemmas.List.Sorted.{length_permutation, ranks_by, sorted_far, sum_by-IsPermutation}
pub use Rattle.std.proofs.lemmas.List.Sums.{count_by-le-length, length-filter, sum_by-append, sum_by-cons, sum_by-set, sum_by_more}
pub use Rattle.std.proofs.lemmas.Map.Made.{length-le_from_is_member}
pub use Rattle.std.proofs.lemmas.Option.{get_or_from_slice_get, slice_get_within}
pub use Rattle.std.specs.Cmp.{IsStrictWeakOrder, both_ways, first_so, second_so}
pub use Rattle.std.specs.Cmp.Lexicographic.{bytes_decides, pointwise, slice_cmp}
pub use Rattle.std.specs.FinMap.{get, nat_cmp-IsAntisymmetric, slice_cmp-IsAntisymmetric}
pub use Rattle.std.specs.Hash.FoldHasher.{finish, initial, write}
pub use Rattle.std.specs.HashMap.{HashMap}
pub use Rattle.std.specs.List.{AllByRecursion, flat_map, list_any, sum_by, swap_remove}
pub use Rattle.std.specs.List.Sorted.{IsStrictlySortedBy}
pub use Rattle.std.specs.Option.{option_map}
pub use Rattle.std.specs.Ordering.{ordering_reverse, ordering_then}
pub use Rattle.std.specs.Prelude.{slice_index_or}
pub use Rattle.std.specs.Vec.Iter.{into_iter_items, into_iter_len}
pub use Rattle.std.specs.declared.hash.BuildHasherDefault.{BuildHasherDefault}
pub use Rattle.std.specs.declared.hash.FoldHasher.{FoldHasher}
pub use mathlib.Core.Logic.{dite}
pub use native.Mathlib.Decide.{ℕ_discrete}
pub use Rattle.path_text.specs.Order.{path_cmp}
pub use Rattle.path_text.specs.Total.{path_cmp_same, path_cmp_total}
pub use Rattle.outside.proofs.Saved.{at_itself}
pub use Rattle.outside.specs.Asked.{Asks}
pub use Rattle.outside.specs.Count.{RoseBy}
pub use Rattle.outside.specs.Tree.{Files, content, stat_of}
pub use Rattle.outside.specs.declared.trees.Stat.{Stat}
pub use Rattle.entry_pages.specs.Entries.{is_of, size_by}
pub use Rattle.entry_pages.specs.declared.entries.Entry.{Entry}
pub use Rattle.flat_list.proofs.Decoded.{is_not}
pub use Rattle.shared_reads.proofs.Counted.{fell_fell, fell_same, first_same, keeps_on, keeps_still, kept_first, kept_less, kept_on, kept_rose, still_some}
pub use Rattle.shared_reads.proofs.Counted.{then_fell, then_kept, then_rose}
pub use Rattle.shared_reads.proofs.Hired.{written}
pub use Rattle.shared_reads.proofs.Taken.{holds_cut, holds_kept}
pub use Rattle.shared_reads.specs.Counts.{KeepUp, KeepsUp, NoneFell}
pub use Rattle.shared_reads.specs.Desks.{HasRoom}
pub use Rattle.shared_reads.specs.Kept.{Holds, IsKept, faults_of, held}
pub use Rattle.tree_cmp.proofs.Counted.{all_tell, first_tree, taken_back}
pub use Rattle.tree_cmp.proofs.OneRow.{file_of}
pub use Rattle.tree_cmp.proofs.Placed.{if_some}
pub use Rattle.tree_cmp.proofs.Taken.{same}
pub use Rattle.tree_cmp.specs.Filling.{Fills, IsFileOf, IsShort}
pub use Rattle.tree_cmp.specs.Readers.{RoseTogether, ShowsChange, ShowsFailure, StatsTold, first_told}
pub use Rattle.tree_cmp.specs.declared.reading.Missing.{Missing}
pub use Rattle.tree_cmp.specs.declared.reading.Missing.TheVariants.{Changed, Failed}
pub use Rattle.tree_dup.specs.Grouping.{AreWhole, HaveCauses, IsByBytes, IsGrouping, ShowsWhole, are_together, first, first_path, has, is_candidate, is_in}
pub use Rattle.tree_dup.specs.Grouping.{is_kept, is_missed, is_read, is_sized, same_bytes}
pub use Rattle.tree_dup.specs.Private.Dealing.{AreDealt, with_missed}
pub use Rattle.tree_dup.specs.Private.Hashing.{AreHashes, IsHash, IsWhole, WasPut, content_hash, fed_all, hash_faults}
pub use Rattle.tree_dup.specs.Private.Piles.{joints, joints_in, times, times_in}
pub use Rattle.tree_dup.specs.Private.Running.{AreDivided, AreSettled, AreStandings, HasContent, IsLastRun, IsRun, IsThere, Moved, Shows, Sought, StandFor}
pub use Rattle.tree_dup.specs.Private.Running.{StandFrom, StandingShows, Stands, StandsAt, StandsTo, Went, comparison_faults, content_cmp, failures}
pub use Rattle.tree_dup.specs.Private.Running.{failures_of, faults_in, is_alike, is_changed, is_failed, is_other, paths_of, same_content, standing_alike}
pub use Rattle.tree_dup.specs.Private.Running.{standing_changed, standing_failed, standing_of, standing_other, still}
pub use Rattle.tree_dup.specs.Private.Sifting.{AreHashed, AreListed, AreMissed, AreSifted, HaveBytes, IsHashed, IsListed, IsMade, IsUndivided, ReadOn}
pub use Rattle.tree_dup.specs.Private.Sifting.{candidates_in, misses, piles_of}
pub use Rattle.tree_dup.specs.Private.Sizes.{AreCounts, candidate_size, counted, file_size}
pub use Rattle.tree_dup.specs.Shown.{told_of}
pub use Rattle.tree_dup.specs.Told.{Grouping, Told}
pub use Rattle.tree_dup.specs.declared.groups.Group.{Group}
pub use Rattle.tree_dup.specs.declared.runs.Comparison.{Comparison}
pub use Rattle.tree_dup.specs.declared.runs.File.{File}
pub use Rattle.tree_dup.specs.declared.runs.Standing.{Standing}
pub use Rattle.tree_dup.specs.declared.runs.Standing.TheVariants.{Alike, Missed, Other}
