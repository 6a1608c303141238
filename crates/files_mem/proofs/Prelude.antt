-- The names from elsewhere that the proofs of this crate cite, passed on from one place. Declares nothing.
pub use Rattle.std.proofs.Common.{Bool, IfNone, IfSome, List, None, Option, Some, [], ap, append-nil, append_assoc, arith, cond, drop, eqb, false, get_or, inl}
pub use Rattle.std.proofs.Common.{inr, is_some, length, length-take, map, nat_eq, not, refl, rules, slice_get, subst, suc, sym, take, true, zero, ℕ, ◌&&◌, ◌++◌}
pub use Rattle.std.proofs.Common.{◌+◌, ◌-◌, ◌<◌, ◌||◌, ◌∙◌, ◌∷◌, ◌≡◌, ◌≢◌, ◌≤◌, ◌⊎◌}
pub use Rattle.std.proofs.lemmas.Bool.{and_from, false≢true, or_from, or_parts, or_right}
pub use Rattle.std.proofs.lemmas.Bool.Decides.{nat_tests}
pub use Rattle.std.proofs.lemmas.List.{drop_all, length-append, length-replicate, nil_from_length, take_all, take_more}
pub use Rattle.std.proofs.lemmas.List.Elements.{All-cons, All-tail}
pub use Rattle.std.proofs.lemmas.List.Sums.{suffix_len_is, sum_by-cons, sum_by_more, sum_by_more_le}
pub use Rattle.std.proofs.lemmas.Map.Keys.{sorted_head, sorted_tail}
pub use Rattle.std.proofs.lemmas.Str.Pattern.{rfind_char}
pub use Rattle.std.specs.Arc.{arc_value}
pub use Rattle.std.specs.BTreeMap.{insert_entry, is_at}
pub use Rattle.std.specs.BTreeMap.Range.{entries_between, range_contains}
pub use Rattle.std.specs.Cmp.{eq_by_cmp_equiv}
pub use Rattle.std.specs.Cmp.Lexicographic.{bytes_decides, pointwise}
pub use Rattle.std.specs.FinMap.{empty, entries, entries-insert, find, from_entries, get, get-empty, get-from_entries, get-insert, get-remove, insert}
pub use Rattle.std.specs.FinMap.{len-empty, len-entries, put, remove, same_map}
pub use Rattle.std.specs.FinMap.Entries.{by_order}
pub use Rattle.std.specs.List.{AllByRecursion, AllZip, before_last, cons_option, filter_map, list_all, list_any, onto_first, position, slice_split, starts_with}
pub use Rattle.std.specs.List.{suffix_len, sum_by}
pub use Rattle.std.specs.List.Sorted.{IsStrictlySortedBy}
pub use Rattle.std.specs.Map.{keys_of, lookup, remove_entry, set_value}
pub use Rattle.std.specs.Option.{MatchOption, is_none, option_map}
pub use Rattle.std.specs.Ordering.{eq_by_cmp, is_le, match_ordering, nat_cmp, ordering_reverse, ordering_then}
pub use Rattle.std.specs.Prelude.{All, Err, IfOk, IsTrue, Ok, OnErr, OnOk, Result, nat_lt, replicate, ◌==◌}
pub use Rattle.std.specs.Str.Pattern.{FindsTextPrefix, StripsPrefix}
pub use Rattle.std.specs.Vec.{vec_capacity, vec_len}
pub use Rattle.std.specs.declared.cmp.Ordering.{Ordering}
pub use Rattle.std.specs.declared.cmp.Ordering.TheVariants.{Equal, Greater, Less}
pub use Rattle.std.specs.declared.ops.Bound.TheVariants.{Included, Unbounded}
pub use denote.Ref.{Bor}
pub use Rattle.path_text.proofs.Fronts.{has_slash}
pub use Rattle.path_text.proofs.Joined.{some_part}
pub use Rattle.path_text.proofs.Moved.{equal}
pub use Rattle.path_text.proofs.Parents.{parent_under}
pub use Rattle.path_text.proofs.Parts.{no_slash, short}
pub use Rattle.path_text.proofs.Preorder.{before_all, front-joined, self_equal}
pub use Rattle.path_text.proofs.Preordered.{begins, preorder}
pub use Rattle.path_text.proofs.Told.{both}
pub use Rattle.path_text.proofs.Under.{contiguous}
pub use Rattle.path_text.proofs.Within.{within_up}
pub use Rattle.path_text.specs.Order.{byte_rank, front, is_under, is_within, path_cmp}
pub use Rattle.path_text.specs.Path.{first_fault, is_slash, joined, level_of, name_fault, parent_of, refusal}
pub use Rattle.path_text.specs.Total.{path_cmp_same, path_cmp_ties, path_cmp_total}
pub use Rattle.path_text.specs.declared.errors.PathError.{PathError}
pub use Rattle.path_text.specs.declared.errors.PathError.TheVariants.{OutOfMemory}
pub use Rattle.outside.proofs.Children.{child_is, name_below-front, name_below-off, one_name_parts}
pub use Rattle.outside.proofs.Cuts.{first_found, first_index, is_first, is_of, rest_there, told_there}
pub use Rattle.outside.proofs.Leased.{a_top, at_tree, get_part, get_rest, not_in_up, over_top}
pub use Rattle.outside.proofs.Names.{children_are_names}
pub use Rattle.outside.proofs.Parents.{no_child}
pub use Rattle.outside.proofs.PartTrees.{leases_keep_trees}
pub use Rattle.outside.specs.Count.{capped}
pub use Rattle.outside.specs.Laid.{get_laid, laid}
pub use Rattle.outside.specs.Lease.{CanLease, HaveParents, Joins, in_tops, is_out, kept, leased, same_tops, tops_of, without_tops}
pub use Rattle.outside.specs.Parts.{AreTops, IsPart}
pub use Rattle.outside.specs.Spans.{IsRejoined, Piece, ascends_above, cuts_at, joined_bytes, pieces, pieces_from, told_bytes, without_cut, zeros_of}
pub use Rattle.outside.specs.Tree.{AreNames, Body, Files, IsTree, Node, bytes_of, content, dir, file, is_dir, is_dir_body, is_file, is_file_body, is_one_name}
pub use Rattle.outside.specs.Tree.{is_root, link, name_below, names_in, other}
pub use Rattle.outside.specs.Writes.{Answers, Area, Cut, all_but, all_out, in_area, is_apart, is_open, is_top, make_refusal, may_change, remove_dir_refusal}
pub use Rattle.outside.specs.Writes.{remove_file_refusal, spliced, time_of, under, write_refusal, written}
pub use Rattle.outside.specs.declared.plots.WriteError.{WriteError}
pub use Rattle.outside.specs.declared.plots.WriteError.TheVariants.{WrongKind}
pub use Rattle.files_mem.specs.Memory.{Acts, Memory, answered, empty_files, put_refusal, put_refusal_at, write_error}
pub use Rattle.files_mem.specs.Planned.{is_planned}
pub use Rattle.files_mem.specs.PrivateHeld.{AreClear, Back, IsClear, IsGround, IsLent, Lending, Lends, copied, laid_all}
pub use Rattle.files_mem.specs.Spanned.{IsCutOut, Spanned, blank, bytes_of_all, held_by, piece_of}
pub use Rattle.files_mem.specs.Stored.{AllValid, body_of, files_of, node_of}
pub use Rattle.files_mem.specs.declared.errors.PutError.{PutError}
pub use Rattle.files_mem.specs.declared.errors.PutError.TheVariants.{Exists, NoParent}
pub use Rattle.files_mem.specs.declared.plans.Call.{Call}
