-- The names from elsewhere that the proofs of this crate cite, passed on from one place. Declares nothing.
pub use Rattle.std.proofs.Common.{Bool, Contains, IfSome, List, None, Option, Some, [], ap, append-nil, append_assoc, ap₂, arith, codes, cond, drop, false}
pub use Rattle.std.proofs.Common.{get_or, inl, inr, length, length-append, map, refl, rules, subst, suc, sym, take, true, zero, ℕ, ◌*◌, ◌++◌, ◌+◌, ◌-◌, ◌/◌}
pub use Rattle.std.proofs.Common.{◌<◌, ◌^◌, ◌∙◌, ◌∷◌, ◌≡◌, ◌≤◌, ◌⊎◌}
pub use Rattle.std.proofs.Math.Seq.{take-append-add}
pub use Rattle.std.proofs.lemmas.Cmp.{nat_cmp_total, on_total, then_total}
pub use Rattle.std.proofs.lemmas.Fn.{dedup_same}
pub use Rattle.std.proofs.lemmas.Grind.{common_steps}
pub use Rattle.std.proofs.lemmas.List.{drop-append-le, drop_all, drop_more, length-map, length-take-le, take-append-drop, take-append-le}
pub use Rattle.std.proofs.lemmas.List.Concat.{flat_map-append, flat_map-cons, length-flat_map}
pub use Rattle.std.proofs.lemmas.List.Elements.{All-contains}
pub use Rattle.std.proofs.lemmas.List.Kept.{Contains-dedup, Contains-from_dedup, IsStrictlySortedBy-dedup}
pub use Rattle.std.proofs.lemmas.List.Sorted.{Contains-permutation, IsPermutation-sym, answers_always, ranks_by}
pub use Rattle.std.proofs.lemmas.Map.Keys.{sorted_tail}
pub use Rattle.std.proofs.lemmas.Map.Views.{All-after_first}
pub use Rattle.std.proofs.lemmas.Result.{IfOk-at_ok, on_err_weaker}
pub use Rattle.std.specs.Cmp.{Equal-is, IsTotalOrder, bool_cmp_total, eq_by_cmp_equiv, tied_itself}
pub use Rattle.std.specs.FinMap.{nat_cmp-IsAntisymmetric}
pub use Rattle.std.specs.List.{AllByRecursion, dedup, flat_map, sum_by}
pub use Rattle.std.specs.List.Sorted.{IsPermutation, IsSorted, IsStrictlySortedBy}
pub use Rattle.std.specs.Option.{is_some}
pub use Rattle.std.specs.Ordering.{bool_cmp, eq_by_cmp, is_lt, nat_cmp, ordering_reverse, ordering_then}
pub use Rattle.std.specs.Prelude.{IfOk, if◌then◌else◌, slice_index_or, ◌==◌}
pub use Rattle.std.specs.declared.cmp.Ordering.{Ordering}
pub use Rattle.std.specs.declared.cmp.Ordering.TheVariants.{Equal, Greater, Less}
pub use Rattle.path_text.specs.Order.{path_cmp}
pub use Rattle.path_text.specs.Total.{path_cmp_same, path_cmp_total}
pub use Rattle.outside.proofs.Names.{all_weaker}
pub use Rattle.outside.specs.Count.{RoseBy}
pub use Rattle.outside.specs.Sinks.{GrewByPrefix}
pub use Rattle.entry_pages.specs.Entries.{mark_notes, note_count}
pub use Rattle.entry_pages.specs.declared.entries.Entry.{Entry}
pub use Rattle.entry_pages.specs.declared.entries.Mark.{Mark}
pub use Rattle.entry_pages.specs.declared.summaries.Summary.{Summary}
pub use Rattle.flat_list.proofs.Pieces.{all_join}
pub use Rattle.tool_text.specs.Groups.{group_lines, path_lines}
pub use Rattle.tool_text.specs.Lines.{line_of, lines_between, lines_of}
pub use Rattle.tool_text.specs.NoteOrder.{AreInOrder, NotesStandInOrder, NothingToOrder, OrderIsUnique, note_cmp, why_cmp, why_number, why_place}
pub use Rattle.tool_text.specs.Notes.{entry_notes, mark_whys, note_lines, notes_of, number_whys, whys_of}
pub use Rattle.tool_text.specs.Rows.{counts_of, labelled, row_lines}
pub use Rattle.tool_text.specs.Runs.{progress_lines, share_lines, share_lines_from, trace_lines}
pub use Rattle.tool_text.specs.declared.noting.Note.{Note}
pub use Rattle.tool_text.specs.declared.noting.Why.{Why}
