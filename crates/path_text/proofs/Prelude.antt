-- The names from elsewhere that the proofs of this crate cite, passed on from one place. Declares nothing.
pub use Rattle.std.proofs.Common.{Bool, Err, List, None, Ok, Option, Some, [], add-one, ap, append-nil, append_assoc, arith, cond, drop, drop-cons}
pub use Rattle.std.proofs.Common.{drop_of_length-le, eqb, false, get_or, get_or-drop, inl, inr, length, length-append, length-drop, lit<, ltb, map, min, not}
pub use Rattle.std.proofs.Common.{refl, subst, suc, sym, take, true, zero, ℕ, ⊎_elim, ◌%◌, ◌&&◌, ◌*◌, ◌++◌, ◌+◌, ◌-◌, ◌/◌, ◌<◌, ◌||◌, ◌∙◌, ◌∷◌, ◌≡◌, ◌≢◌, ◌≤◌}
pub use Rattle.std.proofs.Common.{◌⊎◌}
pub use Rattle.std.proofs.Math.Seq.{drop-append-add, drop-append_seam, drop-length, get_or-append_seam, take-add, take-length}
pub use Rattle.std.proofs.lemmas.Bool.{cases_Bool, false≢true, or_parts}
pub use Rattle.std.proofs.lemmas.Bool.Decides.{Decides-eqb, nat_tests}
pub use Rattle.std.proofs.lemmas.List.{append_cancel_left, drop_at, get_or-append_right, length-take-le, take-append-drop, take_all, take_at}
pub use Rattle.std.proofs.lemmas.List.Splits.{length-slice_split, slice_split-cons_no, slice_split_first}
pub use Rattle.std.proofs.lemmas.List.Sums.{common_prefix_len-le, passes_at_first, suffix_len_is, sum_by-append, sum_by-cons}
pub use Rattle.std.proofs.lemmas.Nat.{be_bytes_8}
pub use Rattle.std.proofs.lemmas.Slice.Eq.{starts_is}
pub use Rattle.std.proofs.lemmas.Str.{IsCharBoundary-after_ascii, IsUtf8-drop, IsUtf8-from_is_utf8, IsUtf8-string_bytes, is_utf8-from_IsUtf8, lead_after_ascii}
pub use Rattle.std.proofs.lemmas.Str.Pattern.{NoCharPasses-char, drop_at_char, split_parts, strip_prefix_char}
pub use Rattle.std.specs.Cmp.{first_so, second_so}
pub use Rattle.std.specs.Cmp.Lexicographic.{bytes_decides, pointwise, slice_cmp}
pub use Rattle.std.specs.Int.{from_be_bytes, w64}
pub use Rattle.std.specs.List.{after_last, before_last, common_prefix_len, count_by, list_all, list_any, onto_first, position, position_or_len, slice_split}
pub use Rattle.std.specs.List.{starts_with, suffix_len}
pub use Rattle.std.specs.Option.{IfNone, IfSome}
pub use Rattle.std.specs.Ordering.{nat_cmp, ordering_reverse, ordering_then}
pub use Rattle.std.specs.Prelude.{IsTrue, MatchOption, OnSome, is_none, nat_eq, nat_le, nat_lt, slice_index, ◌==◌}
pub use Rattle.std.specs.Str.{IsCharBoundary, IsUtf8, NoCharPasses}
pub use Rattle.std.specs.Str.Pattern.{FindsTextPrefix, RFindsChar, SplitsAroundMatch, StripsPrefix}
pub use Rattle.std.specs.String.{string_bytes}
pub use Rattle.std.specs.declared.cmp.Ordering.{Ordering}
pub use Rattle.std.specs.declared.cmp.Ordering.TheVariants.{Equal, Greater, Less}
pub use denote.Ref.{Bor}
pub use denote.Shadow.{shadow}
pub use denote.Text.{Utf8}
pub use Rattle.path_text.specs.Escape.{ReadingUndoesWriting, UnescapingUndoesEscaping, begins_escape, escape, escaped, good_len, hex_digit, hex_value}
pub use Rattle.path_text.specs.Escape.{is_escaped, path_of, reading, told_byte, unescaped}
pub use Rattle.path_text.specs.Graft.{BelowKeepsOrder, BelowUndoesGraft, GraftUndoesBelow, ParentMovesToo, below_of, grafted}
pub use Rattle.path_text.specs.Order.{IsPreorder, ParentIsOver, ReadsSlashAsZero, TopsAreNested, UnderIsContiguous, byte_rank, front, has_zero, is_under}
pub use Rattle.path_text.specs.Order.{is_within, path_cmp, slash_as_zero}
pub use Rattle.path_text.specs.Path.{base_of, first_fault, is_name, is_slash, joined, level_of, name_fault, parent_of, refusal}
pub use Rattle.path_text.specs.Total.{path_cmp_same, path_cmp_total}
pub use Rattle.path_text.specs.Written.{begins_nul, first_written, is_backslash, tells_nul, written_fault}
pub use Rattle.path_text.specs.declared.errors.EscapeError.TheVariants.{BadEscape}
pub use Rattle.path_text.specs.declared.errors.PathError.{PathError}
pub use Rattle.path_text.specs.declared.errors.PathError.TheVariants.{DotName, EmptyName, NotAbsolute, Nul, OutOfMemory, TooLong}
