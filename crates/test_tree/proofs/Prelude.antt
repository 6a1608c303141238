-- The names from elsewhere that the proofs of this crate cite, passed on from one place. Declares nothing.
pub use Rattle.std.proofs.Common.{Bool, Err, List, None, Some, [], add-one, ap, arith, cond, drop, false, inl, inr, length, length-append, map, refl, subst}
pub use Rattle.std.proofs.Common.{suc, sym, true, zero, zero-add, ℕ, ⊎_elim, ◌%◌, ◌&&◌, ◌*◌, ◌++◌, ◌+◌, ◌-◌, ◌/◌, ◌<◌, ◌^◌, ◌||◌, ◌∙◌, ◌∷◌, ◌≡◌, ◌≢◌, ◌≤◌, ◌⊎◌}
pub use Rattle.std.proofs.lemmas.Bool.{and_from, false≢true, or_right}
pub use Rattle.std.proofs.lemmas.Bool.Decides.{nat_tests}
pub use Rattle.std.proofs.lemmas.Fmt.{decimal_by_steps, decimal_digit, decimal_injective, length-decimal-le}
pub use Rattle.std.proofs.lemmas.List.{take-replicate}
pub use Rattle.std.proofs.lemmas.List.Folds.{list_any-append}
pub use Rattle.std.proofs.lemmas.List.FromFn.{map-range_with_len_more}
pub use Rattle.std.specs.Bool.{IsTrue}
pub use Rattle.std.specs.Cmp.Lexicographic.{bytes_decides}
pub use Rattle.std.specs.FinMap.{empty, from_entries, from_entries_push, get, get-empty, get-from_entries, insert, len, len-empty, len-insert}
pub use Rattle.std.specs.FinMap.Entries.{find}
pub use Rattle.std.specs.Fmt.{decimal}
pub use Rattle.std.specs.List.{after_last, before_last, list_any, range_with_len}
pub use Rattle.std.specs.Option.{is_none, is_some}
pub use Rattle.std.specs.Ordering.{eq_by_cmp}
pub use Rattle.std.specs.Prelude.{Ok, OnOk, Result, nat_lt, replicate, ◌==◌}
pub use Rattle.path_text.proofs.Joined.{name_alone, refusal_joined}
pub use Rattle.path_text.proofs.Parents.{around_slash}
pub use Rattle.path_text.specs.Order.{path_cmp}
pub use Rattle.path_text.specs.Path.{base_of, is_name, is_slash, joined, parent_of, refusal}
pub use Rattle.path_text.specs.Total.{path_cmp_same, path_cmp_ties, path_cmp_total}
pub use Rattle.outside.specs.Tree.{Files, Node, dir, far_at, far_of, file, is_dir, is_dir_body, is_root}
pub use Rattle.outside.specs.Writes.{empty_dir}
pub use Rattle.files_mem.proofs.Treed.{same_path}
pub use Rattle.files_mem.specs.Memory.{Memory, empty_files, put_refusal, with_node}
pub use Rattle.files_mem.specs.declared.errors.PutError.{PutError}
pub use Rattle.test_tree.specs.Laws.{FirstNodeIsThere, NoChildIsFar, NodesAreCounted, TestFilesAreTree}
pub use Rattle.test_tree.specs.Made.{first_files, made, memory_of, place, place_over}
pub use Rattle.test_tree.specs.Nodes.{name_of, node_of, path_down, path_of, test_files}
