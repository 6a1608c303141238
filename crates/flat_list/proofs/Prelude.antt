-- The names from elsewhere that the proofs of this crate cite, passed on from one place. Declares nothing.
pub use Rattle.memchr.specs.Find.{IsLastByte, is_byte}
pub use Rattle.std.proofs.Common.{Bool, Bor, Err, Global, List, None, Ok, Option, Result, Some, Vec, [], add-one, ap, ap₂, arith, cond, drop, eqb, false}
pub use Rattle.std.proofs.Common.{get_or, get_or-drop, inl, inr, length, length-append, ltb, map, max, of_calls, refl, rules, set, subst, suc, sym, take, true}
pub use Rattle.std.proofs.Common.{vec_len, zero, ℕ, ◌%◌, ◌&&◌, ◌*◌, ◌++◌, ◌+◌, ◌-◌, ◌/◌, ◌<◌, ◌^◌, ◌∙◌, ◌∷◌, ◌≡◌, ◌≤◌, ◌⊎◌}
pub use Rattle.std.proofs.Math.Seq.{drop-cons}
pub use Rattle.std.proofs.lemmas.Bool.{and_from, and_parts, and_right, cases_lt, false_from_ne_true, false≢true}
pub use Rattle.std.proofs.lemmas.Bool.Decides.{Decides-eqb, nat_tests}
pub use Rattle.std.proofs.lemmas.Cmp.{back_total, nat_cmp_total, nat_list_cmp_total, on_total, then_total}
pub use Rattle.std.proofs.lemmas.Fmt.{decimal_digit}
pub use Rattle.std.proofs.lemmas.Fn.{always_returns_same, called_at}
pub use Rattle.std.proofs.lemmas.Grind.{flat_map-append}
pub use Rattle.std.proofs.lemmas.List.{append-nil, append_assoc, append_cancel_left, drop_all, drop_more, get_or-map, length-drop, length-map, length-take-le}
pub use Rattle.std.proofs.lemmas.List.{map-append, map-id, map-set, nil_from_length, same_from_push, take-append-drop, take-take, take_all, take_more}
pub use Rattle.std.proofs.lemmas.List.Folds.{list_all-append}
pub use Rattle.std.proofs.lemmas.List.FromFn.{get_or-map-range_with_len, length-map-range_with_len, map-range_with_len_more}
pub use Rattle.std.proofs.lemmas.List.Sorted.{IsPermutation-append, IsPermutation-append_comm, IsPermutation-append_left, IsPermutation-append_right}
pub use Rattle.std.proofs.lemmas.List.Sorted.{IsPermutation-refl, IsPermutation-trans, answers_always, ranks_by}
pub use Rattle.std.proofs.lemmas.Option.{get_or_from_slice_get, slice_get_within}
pub use Rattle.std.proofs.lemmas.Result.{IfOk-at_ok, IfOk-weaker, MatchResult-weaker}
pub use Rattle.std.proofs.lemmas.Slice.Eq.{starts_is}
pub use Rattle.std.proofs.lemmas.Str.{IsUtf8-from_ascii, IsUtf8-from_is_utf8, is_utf8-from_IsUtf8}
pub use Rattle.std.specs.Cmp.{IsTotalOrder}
pub use Rattle.std.specs.Cmp.Lexicographic.{bytes_decides, options_total}
pub use Rattle.std.specs.Fmt.{decimal}
pub use Rattle.std.specs.Fn.{CalledAt}
pub use Rattle.std.specs.List.{AllByRecursion, common_prefix_len, flat_map, items_where_true, list_all, list_any, range_with_len, starts_with}
pub use Rattle.std.specs.List.Retain.{IsFiltered, ReturnsInTurn}
pub use Rattle.std.specs.List.Sorted.{IsPermutation, IsSorted, IsSortedByKey, IsStable, IsStableByKey, IsStrictlySortedBy}
pub use Rattle.std.specs.Option.{option_map}
pub use Rattle.std.specs.Ordering.{is_lt}
pub use Rattle.std.specs.Prelude.{IfNone, IfSome, codes, if◌then◌else◌, is_none, nat_eq, nat_le, nat_lt, not, slice_get, ◌==◌, ◌||◌}
pub use Rattle.std.specs.Str.{IsAscii, IsUtf8, bytes_eq, is_utf8}
pub use Rattle.std.specs.declared.cmp.Ordering.{Ordering}
pub use Rattle.std.specs.declared.cmp.Ordering.TheVariants.{Equal, Greater, Less}
pub use Rattle.path_text.proofs.Joined.{one_name, refusal_joined, split_name}
pub use Rattle.path_text.proofs.Parts.{before_made}
pub use Rattle.path_text.proofs.Words.{behind, rest_of}
pub use Rattle.path_text.specs.Escape.{ReadingUndoesWriting, escape, good_len, hex_digit, is_escaped, reading, unescaped}
pub use Rattle.path_text.specs.Order.{path_cmp}
pub use Rattle.path_text.specs.Path.{base_of, first_fault, is_slash, joined, level_of, name_fault, refusal}
pub use Rattle.path_text.specs.Total.{path_cmp_total}
pub use Rattle.outside.proofs.Leased.{or_true}
pub use Rattle.outside.specs.Links.{LinkReadingUndoesWriting, link_of, link_reading, link_refusal}
pub use Rattle.outside.specs.declared.links.LinkTextError.{LinkTextError}
pub use Rattle.outside.specs.declared.trees.Kind.{Kind}
pub use Rattle.outside.specs.declared.trees.Stat.{Stat}
pub use Rattle.whole_lines.proofs.Ends.{end_again, end_free, end_takes}
pub use Rattle.whole_lines.proofs.Escapes.{escape_free, free-append, utf8_escape}
pub use Rattle.whole_lines.proofs.Lines.{IsWhole, all_more, flat_end, free_uncut, joined_lines, line_first, line_same, lines_first, no_lines, torn}
pub use Rattle.whole_lines.proofs.Numbers.{decimal_free, first_digit, number_again, number_none, number_takes}
pub use Rattle.whole_lines.proofs.Paths.{path_again, path_takes}
pub use Rattle.whole_lines.proofs.WholeLines.{Form, cons_parts}
pub use Rattle.whole_lines.proofs.Words.{IsFree, bind_some, cut_takes, eqb_same, pair_is, word_again, word_takes}
pub use Rattle.whole_lines.specs.Lines.{end_text, line, lines_of}
pub use Rattle.whole_lines.specs.Words.{cut, end_at, number_of, ok_of, path_from, word_at, ◌>>=◌}
pub use Rattle.entry_pages.proofs.Inverse.{prefix_same, slice_end}
pub use Rattle.entry_pages.proofs.Passed.{taken_last}
pub use Rattle.entry_pages.specs.Entries.{has_target, is_shaped, is_sized, shape_by, size_by}
pub use Rattle.entry_pages.specs.Pack.{RisesAt}
pub use Rattle.entry_pages.specs.declared.entries.Entry.{Entry}
pub use Rattle.entry_pages.specs.declared.entries.Mark.{Mark}
pub use Rattle.flat_list.specs.Orders.{by_field, by_path, dealt, dealt_from, kind_of, level_count, places_at, places_from, size_of, sort_order, time_of, turned}
pub use Rattle.flat_list.specs.Private.Cut.{all_of, held_by}
pub use Rattle.flat_list.specs.Private.Left.{left_of}
pub use Rattle.flat_list.specs.Private.Reading.{Adds, IsFront, IsLast, IsNear, IsPlainName, IsSettled, IsWritten, NoneFollows, behind_target, entry_at}
pub use Rattle.flat_list.specs.Private.Reading.{entry_behind, found_at, if_behind, is_plain, is_told, line_count, link_ok, path_after, takes_target, target_and}
pub use Rattle.flat_list.specs.Private.Reading.{target_at, target_behind, target_line, told_at, told_entry, told_if, with_target}
pub use Rattle.flat_list.specs.Spelling.{Begins, Follows, IsCause, IsDamaged, IsEntry, IsKnown, IsList, IsRefused, IsTarget, IsTooLong, RefusesExactly, Spells}
pub use Rattle.flat_list.specs.Spelling.{SpellsAs, SpellsOne, entry_lines, header_text, is_known, is_marked, is_new, kind_by, kind_word, lines_by, lines_for}
pub use Rattle.flat_list.specs.Spelling.{mark_word, max_entries, paths, target_lines, target_text, text_of, time_word}
pub use Rattle.flat_list.specs.declared.ordering.Field.{Field}
pub use Rattle.flat_list.specs.declared.reading.Told.{Told}
pub use Rattle.flat_list.specs.declared.versions.Version.{Version}
pub use Rattle.flat_list.specs.declared.versions.Version.TheVariants.{One, Two}
