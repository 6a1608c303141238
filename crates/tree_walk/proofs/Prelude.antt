-- The names from elsewhere that the proofs of this crate cite, passed on from one place. Declares nothing.
pub use Rattle.std.proofs.Common.{Bool, IfSome, List, MatchBool, None, Option, Some, [], add-one, ap, append-nil, append_assoc, arith, cond, drop, eqb, false}
pub use Rattle.std.proofs.Common.{get_or, inl, inr, length, length-append, map, min, refl, rules, subst, suc, sym, take, tests, true, zero, ℕ, ⊎_elim, ◌&&◌}
pub use Rattle.std.proofs.Common.{◌++◌, ◌+◌, ◌-◌, ◌<◌, ◌^◌, ◌||◌, ◌∙◌, ◌∷◌, ◌≡◌, ◌≢◌, ◌≤◌, ◌⊎◌}
pub use Rattle.std.proofs.Math.Bool.{or-true}
pub use Rattle.std.proofs.Math.ListN.{get_or-map}
pub use Rattle.std.proofs.Math.Seq.{take-suc}
pub use Rattle.std.proofs.lemmas.Bool.{and_from, and_parts, and_right, false≢true, or_cases, or_left, or_right}
pub use Rattle.std.proofs.lemmas.Bool.Decides.{nat_tests}
pub use Rattle.std.proofs.lemmas.Fn.{dedup_same}
pub use Rattle.std.proofs.lemmas.Iterator.{YieldsList-from_slice, cases_from_all}
pub use Rattle.std.proofs.lemmas.List.{length-map, map-append, nil_from_length}
pub use Rattle.std.proofs.lemmas.List.Concat.{flat_map-append}
pub use Rattle.std.proofs.lemmas.List.Elements.{All-contains, All-contains_itself, All-from_recursion, recursion_from_All}
pub use Rattle.std.proofs.lemmas.List.Folds.{flat_map-map, list_any-append}
pub use Rattle.std.proofs.lemmas.List.Sorted.{All-permutation, IsPermutation-cons, IsPermutation-insert, IsPermutation-map, IsPermutation-refl}
pub use Rattle.std.proofs.lemmas.List.Sorted.{IsPermutation-sym, IsPermutation-trans, length_permutation, ranks_by, sorted_far, sum_by-IsPermutation}
pub use Rattle.std.proofs.lemmas.List.Sums.{sum-map, sum_by-append, sum_by-cons, sum_by_more, sum_by_more_le, sum_by_push}
pub use Rattle.std.proofs.lemmas.Map.Keys.{sorted_from_all_adjacent}
pub use Rattle.std.proofs.lemmas.Map.Views.{list_any-from_Contains}
pub use Rattle.std.proofs.lemmas.Option.{get_or_from_slice_get, slice_get_within}
pub use Rattle.std.proofs.lemmas.Str.{is_utf8-from_IsUtf8}
pub use Rattle.std.specs.Cmp.{eq_by_cmp_equiv}
pub use Rattle.std.specs.Cmp.Lexicographic.{bytes_decides, nat_list_eq_equiv, pointwise, slice_cmp}
pub use Rattle.std.specs.FinMap.{contains_key-keys, get, keys}
pub use Rattle.std.specs.List.{All, AllByRecursion, AllWithin, Any, Contains, HoldsAt, cons_option, count_by, dedup, dedup_from, filter_map, flat_map, list_any}
pub use Rattle.std.specs.List.{slice_index_or, starts_with, sum_by}
pub use Rattle.std.specs.List.Sorted.{IsPermutation, IsSorted, IsSortedByKey, IsStrictlySortedBy}
pub use Rattle.std.specs.Option.{option_map, unwrap_or}
pub use Rattle.std.specs.Ordering.{eq_by_cmp, is_eq, is_lt, nat_cmp, ordering_reverse, ordering_then}
pub use Rattle.std.specs.Prelude.{Err, IfOk, IsErrOf, IsTrue, Ok, OnErr, OnOk, Result, Vec, is_none, is_some, nat_eq, nat_lt, slice_get, ◌==◌}
pub use Rattle.std.specs.Vec.{vec_len}
pub use Rattle.std.specs.declared.alloc.Global.{Global}
pub use Rattle.std.specs.declared.cmp.Ordering.{Ordering}
pub use Rattle.std.specs.declared.cmp.Ordering.TheVariants.{Equal, Greater, Less}
pub use Rattle.path_text.proofs.Levels.{parent_above}
pub use Rattle.path_text.proofs.Parents.{cut, parent_joined, parent_under}
pub use Rattle.path_text.proofs.Parts.{front_long, short}
pub use Rattle.path_text.proofs.Preorder.{before_all, child_after, child_precedes, front-joined, front_of_child, no_slash, precedes, precedes-Less}
pub use Rattle.path_text.proofs.Preorder.{sibling_precedes, some_bytes}
pub use Rattle.path_text.proofs.Told.{and_false}
pub use Rattle.path_text.proofs.Under.{irreflexive}
pub use Rattle.path_text.proofs.Within.{same_or_under, under_longer, under_within, within_up}
pub use Rattle.path_text.specs.Order.{byte_rank, front, is_under, is_within, path_cmp}
pub use Rattle.path_text.specs.Path.{is_name, joined, level_of, parent_of, refusal}
pub use Rattle.path_text.specs.Total.{path_cmp_same, path_cmp_ties, path_cmp_total}
pub use Rattle.outside.proofs.Children.{child_is}
pub use Rattle.outside.proofs.Leased.{dir_is_there, get_part}
pub use Rattle.outside.proofs.Names.{all_weaker, children_are_names, placed_path}
pub use Rattle.outside.proofs.Parents.{child_of_parent}
pub use Rattle.outside.proofs.PartTrees.{leases_keep_trees}
pub use Rattle.outside.specs.Asked.{Asks}
pub use Rattle.outside.specs.Count.{RoseBy, capped}
pub use Rattle.outside.specs.Lease.{leased}
pub use Rattle.outside.specs.Parts.{AreTops, IsPart}
pub use Rattle.outside.specs.Tree.{AreNames, Body, Files, IsTree, Lists, Node, dir, far_of, file, is_dir, is_dir_body, is_root, kind_of, link, link_at}
pub use Rattle.outside.specs.Tree.{name_below, names_in, other, stat_of, text_of}
pub use Rattle.outside.specs.Writes.{is_top, under}
pub use Rattle.outside.specs.declared.failures.Failed.{Failed}
pub use Rattle.outside.specs.declared.listings.Listing.{Listing}
pub use Rattle.outside.specs.declared.trees.Kind.{Kind}
pub use Rattle.outside.specs.declared.trees.LinkError.{LinkError}
pub use Rattle.outside.specs.declared.trees.ListError.{ListError}
pub use Rattle.outside.specs.declared.trees.Stat.{Stat}
pub use Rattle.entry_pages.specs.Entries.{is_kind, is_of, is_shaped}
pub use Rattle.entry_pages.specs.declared.entries.Entry.{Entry}
pub use Rattle.entry_pages.specs.declared.entries.Mark.{Mark}
pub use Rattle.flat_list.proofs.Pieces.{all_join}
pub use Rattle.flat_list.specs.Spelling.{max_entries}
pub use Rattle.ring_core.specs.declared.events.Event.{Event}
pub use Rattle.circle_run.proofs.Hearing.{both_first}
pub use Rattle.circle_run.proofs.Maps.{sum_by-map}
pub use Rattle.circle_run.proofs.Sums.{sum_by-flat_map, sum_by-ones}
pub use Rattle.circle_run.specs.Balance.{Balanced, Log, handled, pushed}
pub use Rattle.circle_run.specs.Left.{all_left}
pub use Rattle.circle_run.specs.Traced.{IsProgress, IsTraced, WasRun}
pub use Rattle.circle_run.specs.declared.outcomes.Share.{Share}
pub use Rattle.circle_run.specs.declared.settings.Options.{Options}
pub use Rattle.tree_walk.specs.Answered.{IsAnswered}
pub use Rattle.tree_walk.specs.Cut.{CutGoesOn, IfCut, IsCut, IsCutFound, IsJoined, IsTooMany, LeftIsApart, RestartIsWalk, found_in, log_by}
pub use Rattle.tree_walk.specs.Found.{IsFound, IsWalkOf}
pub use Rattle.tree_walk.specs.Held.{Held, Holds, IsDone, IsPush, entries_of, first_names, held_of, is_listed, log_of}
pub use Rattle.tree_walk.specs.Looking.{IsLook, by_link, by_list, by_stat, is_linked}
pub use Rattle.tree_walk.specs.Roots.{Apart, IsRoots, RootsAreUnique, is_in, is_in_some}
pub use Rattle.tree_walk.specs.Told.{EntriesAreTold, EntriesHaveParents, IsTold, ParentsAreListed, StandsBy, far_by, has_dir, stat_by, target_by}
pub use Rattle.tree_walk.specs.Traced.{IsProgressTo, IsTracedWalk, WasWalked, whole_log}
pub use Rattle.tree_walk.specs.Walk.{Answer, Answers, WalkAscends, WalkFindsAll, WalkHasEachPathOnce, WalkIsRecursive, WalkListsAll, WalkWithoutFaultsIsFine}
pub use Rattle.tree_walk.specs.Walk.{all_told, answer_in, answers_in, bare, children_of, entry_of, entry_of_node, is_told, list_failed, paths_of, stat_failed}
pub use Rattle.tree_walk.specs.Walk.{told, walk, walk_down, weight, weight_of}
pub use Rattle.tree_walk.specs.declared.reports.Walked.{Walked}
