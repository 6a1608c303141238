-- The names from elsewhere that the proofs of this crate cite, passed on from one place. Declares nothing.
pub use Rattle.std.proofs.Common.{Bool, List, None, Some, [], ap, arith, cond, eqb, false, get_or, length, map, refl, subst, suc, sym, true, zero, ℕ, ⊎_elim}
pub use Rattle.std.proofs.Common.{◌++◌, ◌+◌, ◌-◌, ◌||◌, ◌∙◌, ◌∷◌, ◌≡◌, ◌≤◌}
pub use Rattle.std.proofs.Math.ListN.{get_or-map}
pub use Rattle.std.proofs.lemmas.Bool.{false≢true}
pub use Rattle.std.proofs.lemmas.Cmp.{on_total, tied_itself}
pub use Rattle.std.proofs.lemmas.List.{length-map}
pub use Rattle.std.proofs.lemmas.List.Elements.{All-from_recursion, recursion_from_All}
pub use Rattle.std.proofs.lemmas.List.Sorted.{ranks_by, sorted_far, sum_by-IsPermutation}
pub use Rattle.std.proofs.lemmas.List.Sums.{sum_by-append, sum_by-cons}
pub use Rattle.std.specs.Cmp.{IsTotalOrder}
pub use Rattle.std.specs.Cmp.Lexicographic.{bytes_decides, nat_list_eq_equiv, pointwise}
pub use Rattle.std.specs.FinMap.{entries, entries_sorted, get, get-entries, keys}
pub use Rattle.std.specs.FinMap.Entries.{find, find-where_key, is_sorted-where_key, same_entries, where_key}
pub use Rattle.std.specs.List.{AllByRecursion, cons_option, filter, filter_map, flat_map, sum_by}
pub use Rattle.std.specs.List.Sorted.{IsSorted}
pub use Rattle.std.specs.Ordering.{is_lt, on, ordering_reverse, ordering_then}
pub use Rattle.std.specs.declared.cmp.Ordering.{Ordering}
pub use Rattle.std.specs.declared.cmp.Ordering.TheVariants.{Equal, Greater, Less}
pub use Rattle.path_text.proofs.Preorder.{front-joined}
pub use Rattle.path_text.specs.Order.{front, path_cmp}
pub use Rattle.path_text.specs.Path.{joined}
pub use Rattle.path_text.specs.Total.{path_cmp_same, path_cmp_total}
pub use Rattle.outside.proofs.Children.{child_is, one_name_parts}
pub use Rattle.outside.proofs.Names.{all_weaker, children_are_names}
pub use Rattle.outside.specs.Tree.{Files, IsTree, Node, is_dir, name_below, names_in}
pub use Rattle.entry_pages.specs.declared.entries.Entry.{Entry}
pub use Rattle.flat_list.proofs.Ordered.{sort_order_total}
pub use Rattle.flat_list.specs.Orders.{by_field, by_path, sort_order, turned}
pub use Rattle.flat_list.specs.declared.ordering.Field.{Field}
pub use Rattle.circle_run.proofs.Maps.{sum_by-map}
pub use Rattle.circle_run.specs.Balance.{Balanced}
pub use Rattle.tree_walk.proofs.AnyOrder.{moved}
pub use Rattle.tree_walk.proofs.Covers.{child_covers, covers, covers-itself, from_apart, one, some_covers}
pub use Rattle.tree_walk.proofs.Cuts.{handled_by, kids, pushed_by}
pub use Rattle.tree_walk.proofs.Inside.{begins-itself, in_itself, in_trans, is_in_is}
pub use Rattle.tree_walk.proofs.Lawful.{all_told_in}
pub use Rattle.tree_walk.proofs.Lists.{flat_same}
pub use Rattle.tree_walk.proofs.Names.{no_names}
pub use Rattle.tree_walk.proofs.Once.{each_here, falls, one-same}
pub use Rattle.tree_walk.proofs.Ordered.{in_order}
pub use Rattle.tree_walk.proofs.Recursive.{of_children}
pub use Rattle.tree_walk.proofs.Restarts.{restart_is_walk}
pub use Rattle.tree_walk.proofs.Same.{unequal}
pub use Rattle.tree_walk.proofs.Standing.{In, above, each_in, of_all}
pub use Rattle.tree_walk.specs.Cut.{IsCut, IsJoined, log_by}
pub use Rattle.tree_walk.specs.Found.{IsWalkOf}
pub use Rattle.tree_walk.specs.Roots.{is_in, is_in_some}
pub use Rattle.tree_walk.specs.Walk.{Answer, Answers, all_told, answer_in, answers_in, bare, children_of, entry_of, list_failed, paths_of, stat_failed, told}
pub use Rattle.tree_walk.specs.Walk.{walk, walk_down, weight_of}
pub use Rattle.cut_laws.specs.Local.{CutsAreLocal, FineWalksAreOne, RestartFindsTheWalk, RestartIsWalkInEach, SameBelow, WalksAreLocal}
pub use Rattle.cut_laws.specs.Sorts.{SortsAreUnique}
