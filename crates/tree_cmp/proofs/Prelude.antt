-- The names from elsewhere that the proofs of this crate cite, passed on from one place. Declares nothing.
pub use Rattle.std.proofs.Common.{All, Bool, Err, IfOk, IfSome, IsTrue, List, None, Ok, Option, Result, Some, [], add-one, ap, append-nil, append_assoc, arith}
pub use Rattle.std.proofs.Common.{cond, drop, eqb, false, filter, get_or, get_or-set_other, get_or-set_same, if◌then◌else◌, inl, inr, is_some, length}
pub use Rattle.std.proofs.Common.{length-append, length-drop, length-set, map, min, not, refl, rules, set, subst, suc, sym, take, true, zero, ℕ, ⊎_elim, ◌&&◌}
pub use Rattle.std.proofs.Common.{◌++◌, ◌+◌, ◌-◌, ◌<◌, ◌^◌, ◌||◌, ◌∙◌, ◌∷◌, ◌≡◌, ◌≤◌}
pub use Rattle.std.proofs.Math.Seq.{map-set_same, take-add, take-append-add, take-suc}
pub use Rattle.std.proofs.lemmas.Bool.{and_right, false_from_ne_true, false≢true, or_from, or_right}
pub use Rattle.std.proofs.lemmas.Bool.Decides.{nat_tests}
pub use Rattle.std.proofs.lemmas.Grind.{common_steps}
pub use Rattle.std.proofs.lemmas.List.{drop-drop, get_or-map, get_or_default, length-map, length-take-le, map-append, take-take, take_all, take_more}
pub use Rattle.std.proofs.lemmas.List.Elements.{All-append, All-from_recursion, All-head, All-map, filter-append, filter_map-append, recursion_from_All}
pub use Rattle.std.proofs.lemmas.List.Folds.{list_any-append}
pub use Rattle.std.proofs.lemmas.List.Splits.{slice_split-cons_no, slice_split_first}
pub use Rattle.std.proofs.lemmas.List.Sums.{sum-map, sum_by-cons, sum_by-set}
pub use Rattle.std.proofs.lemmas.Option.{slice_get_cases}
pub use Rattle.std.proofs.lemmas.Slice.{take-put_mid}
pub use Rattle.std.specs.Cmp.Lexicographic.{bytes_decides, pointwise}
pub use Rattle.std.specs.FinMap.{get}
pub use Rattle.std.specs.List.{AllByRecursion, cons_option, filter_map, find, list_all, list_any, onto_first, position, position_or_len, slice_get, slice_split}
pub use Rattle.std.specs.List.{sum_by}
pub use Rattle.std.specs.Option.{IfNone, option_map}
pub use Rattle.std.specs.Ordering.{is_ge, is_le, ordering_reverse}
pub use Rattle.std.specs.Prelude.{OnOk, nat_le, sum, ◌==◌}
pub use Rattle.std.specs.declared.cmp.Ordering.{Ordering}
pub use Rattle.std.specs.declared.cmp.Ordering.TheVariants.{Equal, Greater, Less}
pub use borrow.Rule.Slice.PartMut.{put_mid}
pub use mathlib.Core.Logic.{dite}
pub use native.Mathlib.Decide.{ℕ_discrete}
pub use Rattle.path_text.proofs.Split.{no_place, place}
pub use Rattle.path_text.proofs.Told.{both}
pub use Rattle.path_text.proofs.Under.{irreflexive, one_way}
pub use Rattle.path_text.specs.Graft.{BelowKeepsOrder, GraftUndoesBelow, below_of, grafted}
pub use Rattle.path_text.specs.Order.{IsPreorder, UnderIsContiguous, is_under, is_within, path_cmp}
pub use Rattle.path_text.specs.Path.{refusal}
pub use Rattle.path_text.specs.Total.{path_cmp_same, path_cmp_total}
pub use Rattle.outside.proofs.Saved.{at_itself}
pub use Rattle.outside.specs.Asked.{Asks}
pub use Rattle.outside.specs.Count.{RoseBy}
pub use Rattle.outside.specs.Tree.{Body, Files, Node, Reads, bytes_of, content, is_file, is_file_body, kind_of, size_of, stat_of}
pub use Rattle.outside.specs.declared.trees.ReadError.{ReadError}
pub use Rattle.outside.specs.declared.trees.Stat.{Stat}
pub use Rattle.entry_pages.specs.Entries.{is_kind, is_of, size_by}
pub use Rattle.entry_pages.specs.declared.entries.Entry.{Entry}
pub use Rattle.flat_list.proofs.Turns.{step_more}
pub use Rattle.shared_reads.proofs.Counted.{fell_same, first_same, kept_first, kept_less, kept_then, rose_none, still_some, then_fell, then_rose}
pub use Rattle.shared_reads.proofs.Taken.{holds_cut, holds_kept}
pub use Rattle.shared_reads.specs.Counts.{KeepsUp}
pub use Rattle.shared_reads.specs.Desks.{HasRoom}
pub use Rattle.shared_reads.specs.Kept.{Holds, IsKept, held}
pub use Rattle.tree_cmp.specs.Expressions.{condition_reading, cons_reading, holds, meets, term_reading, terms_reading}
pub use Rattle.tree_cmp.specs.Filling.{Fills, IsFileOf, ShowsMissing, missing}
pub use Rattle.tree_cmp.specs.Passes.{IsNext, IsPassed}
pub use Rattle.tree_cmp.specs.Private.Items.{AreDrafts, at, content_before, draft_of, has_row, is_below_partial, item_of, item_stat, items_of, links_at, paths}
pub use Rattle.tree_cmp.specs.Private.Items.{to_read}
pub use Rattle.tree_cmp.specs.Private.Parts.{content_by, findings_of, missed_at, missed_by, row_by, side_missed}
pub use Rattle.tree_cmp.specs.Private.Reading.{PieceTold, Told, counts, goes_on}
pub use Rattle.tree_cmp.specs.Private.Sharing.{IsOf, IsOfRow, IsSettled, ToldAt, blames, some_counts, unsettled}
pub use Rattle.tree_cmp.specs.Private.Steps.{Ascend, BeforeSome, Behind, BehindSome, From, HasSoundEnds, Heads, IsCurrent, IsSound, Ready, Takes, ahead}
pub use Rattle.tree_cmp.specs.Private.Steps.{current, hidden_after, is_partial_item, is_row, left_of, order_by, path_of, row_after, shown_from, side_of}
pub use Rattle.tree_cmp.specs.Private.Steps.{under_some}
pub use Rattle.tree_cmp.specs.Readers.{Alike, HaveCauses, NoneFell, RoseTogether, ShowsWhole, StatsTold, first_told}
pub use Rattle.tree_cmp.specs.Rows.{Findings, IsComparison, IsContent, IsRow, WasToBeRead, are_files, exist_of, has_value, is_missed, is_read, kinds, row_path}
pub use Rattle.tree_cmp.specs.Rows.{same_bytes, sizes, stat_at, target_at, texts, two_of, unread}
pub use Rattle.tree_cmp.specs.Sides.{IsSide, Side, entry_at, is_gone, is_hidden, is_partial, is_shown, side}
pub use Rattle.tree_cmp.specs.declared.conditions.Condition.{Condition}
pub use Rattle.tree_cmp.specs.declared.drafts.Draft.{Draft}
pub use Rattle.tree_cmp.specs.declared.errors.ExprError.{ExprError}
pub use Rattle.tree_cmp.specs.declared.items.Feed.{Feed}
pub use Rattle.tree_cmp.specs.declared.items.Item.{Item}
pub use Rattle.tree_cmp.specs.declared.reading.Missing.{Missing}
pub use Rattle.tree_cmp.specs.declared.reading.Missing.TheVariants.{Changed}
pub use Rattle.tree_cmp.specs.declared.reading.Outcome.{Outcome}
pub use Rattle.tree_cmp.specs.declared.reading.Outcome.TheVariants.{Same}
pub use Rattle.tree_cmp.specs.declared.rows.Missed.{Missed}
pub use Rattle.tree_cmp.specs.declared.rows.Row.{Row}
pub use Rattle.tree_cmp.specs.declared.rows.Two.{Two}
