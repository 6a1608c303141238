-- The names from elsewhere that the proofs of this crate cite, passed on from one place. Declares nothing.
pub use Rattle.std.proofs.Common.{Bool, IfSome, List, None, Option, Some, [], ap, append-nil, append_assoc, arith, cond, drop, eqb, false, get_or, inl, inr}
pub use Rattle.std.proofs.Common.{length, map, nat_eq, not, refl, rules, slice_get, subst, suc, sym, take, true, zero, ℕ, ◌&&◌, ◌++◌, ◌+◌, ◌-◌, ◌<◌, ◌||◌, ◌∙◌}
pub use Rattle.std.proofs.Common.{◌∷◌, ◌≡◌, ◌≢◌, ◌≤◌, ◌⊎◌}
pub use Rattle.std.proofs.Math.Seq.{drop-append_seam, take-add}
pub use Rattle.std.proofs.lemmas.Bool.{false≢true, or_parts}
pub use Rattle.std.proofs.lemmas.Bool.Decides.{nat_tests}
pub use Rattle.std.proofs.lemmas.List.{drop-append-le, drop_all, get_or_append_left, length-append, length-drop, length-take, take-append-le, take_all}
pub use Rattle.std.proofs.lemmas.List.Elements.{All-contains_itself, All-from_recursion, recursion_from_All}
pub use Rattle.std.proofs.lemmas.List.Folds.{list_any_at}
pub use Rattle.std.proofs.lemmas.Map.Views.{list_any-from_Contains}
pub use Rattle.std.proofs.lemmas.Option.{get_or_from_slice_get, slice_get-get_or, slice_get_within}
pub use Rattle.std.proofs.lemmas.Str.{IsCharBoundary-at_seam, IsCharBoundary-end}
pub use Rattle.std.specs.Cmp.{eq_by_cmp_equiv, first_so}
pub use Rattle.std.specs.Cmp.Lexicographic.{bytes_decides, pointwise, slice_cmp}
pub use Rattle.std.specs.FinMap.{contains_key-keys, entries, entries_sorted, get, get-insert, get-remove, get-retain_keys, insert, is_sorted, keys, same_map}
pub use Rattle.std.specs.FinMap.Entries.{below_all}
pub use Rattle.std.specs.List.{AllByRecursion, Contains, cons_option, filter_map, list_any, position, position_or_len, remove, starts_with}
pub use Rattle.std.specs.Option.{is_none, is_some}
pub use Rattle.std.specs.Ordering.{eq_by_cmp, is_lt, nat_cmp, ordering_then}
pub use Rattle.std.specs.Prelude.{Err, IfErr, IsTrue, Ok, OnErr, OnOk, Result, T, nat_lt, slice_index, slice_range, ◌==◌}
pub use Rattle.std.specs.Str.{IsCharBoundary, IsUtf8}
pub use Rattle.std.specs.String.{string_bytes}
pub use Rattle.std.specs.declared.cmp.Ordering.{Ordering}
pub use Rattle.std.specs.declared.cmp.Ordering.TheVariants.{Equal, Greater, Less}
pub use borrow.Author.Count.{below_more}
pub use Rattle.path_text.proofs.Carried.{parent_moves_too}
pub use Rattle.path_text.proofs.Levels.{as_deep, parent_above}
pub use Rattle.path_text.proofs.Parents.{cut, name_behind, parent_under}
pub use Rattle.path_text.proofs.Parts.{begins, short}
pub use Rattle.path_text.proofs.Preorder.{front-joined}
pub use Rattle.path_text.proofs.Within.{not_root, root_is, some_bytes, under_longer, under_no_root, within_up}
pub use Rattle.path_text.proofs.Words.{behind}
pub use Rattle.path_text.specs.Escape.{UnescapingUndoesEscaping, escape, good_len, unescaped}
pub use Rattle.path_text.specs.Order.{byte_rank, front, is_under, is_within, path_cmp}
pub use Rattle.path_text.specs.Path.{is_name, is_slash, joined, level_of, parent_of, refusal}
pub use Rattle.path_text.specs.Total.{path_cmp_same, path_cmp_ties, path_cmp_total}
pub use Rattle.path_text.specs.declared.errors.PathError.{PathError}
pub use Rattle.outside.specs.Answered.{Cleared, LookFound, LookStopped, ReadFront, SaveEnded, WroteFront, over_told, place_told}
pub use Rattle.outside.specs.Asked.{Asks, Writes}
pub use Rattle.outside.specs.Count.{RoseBy}
pub use Rattle.outside.specs.Laid.{get_laid, laid}
pub use Rattle.outside.specs.Lease.{HaveParents, Joins, in_tops, kept, leased, same_tops, without_tops}
pub use Rattle.outside.specs.Links.{LinkReadingUndoesWriting, link_of, link_reading, link_refusal}
pub use Rattle.outside.specs.Listed.{AreEndsFrom, names_from}
pub use Rattle.outside.specs.Parts.{AreTops, IsPart, LeasesKeepTrees, LeasesOverlap}
pub use Rattle.outside.specs.Spans.{cuts_at, without_cut}
pub use Rattle.outside.specs.Tree.{AreNames, ChildrenAreNames, ChildrenHaveParents, Files, IsTree, Node, content, file, is_dir, is_file, is_one_name, is_placed}
pub use Rattle.outside.specs.Tree.{is_root, name_below, names_in}
pub use Rattle.outside.specs.Whole.{Holds, Saves, can_put, can_save}
pub use Rattle.outside.specs.Writes.{Answers, Cut, SameBut, is_top, new_file, spliced, time_of, under, written}
pub use Rattle.outside.specs.declared.failures.Failed.{Failed}
pub use Rattle.outside.specs.declared.links.LinkTextError.{LinkTextError}
pub use Rattle.outside.specs.declared.links.LinkTextError.TheVariants.{BadEscape}
pub use Rattle.outside.specs.declared.plots.WriteError.{WriteError}
pub use Rattle.outside.specs.declared.saving.SaveError.{SaveError}
pub use Rattle.outside.specs.declared.trees.Stat.{Stat}
