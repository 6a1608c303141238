-- The names from elsewhere that the proofs of this crate cite, passed on from one place. Declares nothing.
pub use Rattle.memchr.specs.Find.{IsFirstByte, is_byte}
pub use Rattle.std.proofs.Common.{Bool, Err, List, None, Ok, Option, Result, Some, [], add-one, ap, append-nil, append_assoc, ap₂, arith, cond, drop, eqb}
pub use Rattle.std.proofs.Common.{false, get_or, inl, inr, length, length-append, ltb, nat_lt, not, refl, subst, suc, sym, take, true, zero, ℕ, ◌%◌, ◌&&◌, ◌*◌}
pub use Rattle.std.proofs.Common.{◌++◌, ◌+◌, ◌-◌, ◌/◌, ◌<◌, ◌^◌, ◌∙◌, ◌∷◌, ◌≡◌, ◌≢◌, ◌≤◌}
pub use Rattle.std.proofs.Math.Seq.{drop-cons, take-append-add}
pub use Rattle.std.proofs.lemmas.Bool.{and_parts, cases_eq, cases_lt, false_from_ne_true, false≢true, le-ltb, lt-ltb, ltb-false, ltb-true}
pub use Rattle.std.proofs.lemmas.Bool.Decides.{nat_tests}
pub use Rattle.std.proofs.lemmas.Fmt.{IsAscii-decimal, decimal-digits_value, decimal_digit, decimal_is_IsNumeral, decimal_nonempty, first_decimal}
pub use Rattle.std.proofs.lemmas.Grind.{flat_map-append, get_or_default_zero}
pub use Rattle.std.proofs.lemmas.Int.Digits.{digits_more, digits_value-lt, digits_value_more}
pub use Rattle.std.proofs.lemmas.List.{append_cancel_left, get_or-take, length-take, length-take-le, take-append-drop, take_at}
pub use Rattle.std.proofs.lemmas.List.Elements.{recursion_from_All}
pub use Rattle.std.proofs.lemmas.List.Quantifiers.{position-Some}
pub use Rattle.std.proofs.lemmas.Map.Views.{exact_unsigned_eq}
pub use Rattle.std.proofs.lemmas.Str.{IsUtf8-append, IsUtf8-encode, IsUtf8-from_ascii, IsUtf8-from_is_utf8, IsUtf8-nil, digit_value_digit, encode_ascii}
pub use Rattle.std.proofs.lemmas.Str.{inside_one, is_utf8-from_IsUtf8}
pub use Rattle.std.proofs.lemmas.Str.Parse.{IsNumeralModel, digit_at, parse_plain}
pub use Rattle.std.specs.Char.{is_ascii_digit}
pub use Rattle.std.specs.Cmp.Lexicographic.{bytes_decides}
pub use Rattle.std.specs.Fmt.{decimal}
pub use Rattle.std.specs.List.{AllByRecursion, flat_map, position, position_or_len}
pub use Rattle.std.specs.Prelude.{codes, slice_index}
pub use Rattle.std.specs.Result.{OkIff, result_ok}
pub use Rattle.std.specs.Str.{IsUtf8, bytes_eq, is_utf8}
pub use Rattle.std.specs.Str.Parse.{AllDigits, ParsesUnsigned, digits_value}
pub use lib.Utf8.{encode, encodes, low_scalar, scalar, scalars}
pub use native.Mathlib.Nat.{pow-le-pow_right}
pub use Rattle.path_text.proofs.Readable.{as_itself, read_is_path}
pub use Rattle.path_text.specs.Escape.{ReadingUndoesWriting, escape, escaped, hex_digit, is_escaped, reading}
pub use Rattle.path_text.specs.Path.{refusal}
pub use Rattle.whole_lines.specs.Lines.{end_text, line, lines_of, onto_line}
pub use Rattle.whole_lines.specs.Private.{AreDigits, IsNumberWord, LeadsNumber}
pub use Rattle.whole_lines.specs.Words.{cut, number_of, ok_of, onto_word, ◌>>=◌}
pub use Rattle.whole_lines.specs.declared.reading.Digits.{Digits}
