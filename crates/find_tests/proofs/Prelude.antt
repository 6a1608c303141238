-- The names from elsewhere that the proofs of this crate cite, passed on from one place. Declares nothing.
pub use Rattle.std.proofs.Common.{Bool, List, [], ap, append-nil, append_assoc, ap₂, arith, cond, drop, false, filter, inl, inr, length, length-append, min}
pub use Rattle.std.proofs.Common.{refl, rules, subst, suc, sym, take, true, zero, ℕ, ◌&&◌, ◌++◌, ◌+◌, ◌-◌, ◌==◌, ◌^◌, ◌||◌, ◌↔◌, ◌∙◌, ◌∷◌, ◌≡◌, ◌≤◌}
pub use Rattle.std.proofs.lemmas.Bool.{and_parts, false≢true, or_cases, or_parts, or_right}
pub use Rattle.std.proofs.lemmas.Bool.Decides.{nat_tests}
pub use Rattle.std.proofs.lemmas.Fn.{filter_same}
pub use Rattle.std.proofs.lemmas.List.{drop-drop, nil_from_length, take-append-drop, take_all}
pub use Rattle.std.proofs.lemmas.List.Sums.{count_by-le-length, sum_by-cons}
pub use Rattle.std.proofs.lemmas.Str.{chars-nil, chars_past_char, len_utf8_bounds, length-encode}
pub use Rattle.std.specs.Cmp.{both_ways}
pub use Rattle.std.specs.List.{count_by}
pub use Rattle.std.specs.Prelude.{None, Some, encode_utf8, is_some}
pub use Rattle.std.specs.Str.{chars}
pub use denote.Shadow.{shadow}
pub use denote.Text.{Utf8}
pub use Rattle.entry_pages.specs.declared.entries.Entry.{Entry}
pub use Rattle.find_tests.specs.Bounds.{decimal}
pub use Rattle.find_tests.specs.Cases.{FirstAndRest, GlobByCases, HasDivision, is_special}
pub use Rattle.find_tests.specs.Glob.{before_close, behind_close, behind_members, behind_negation, behind_piece, bracket, has_close, is_bracket, is_closed}
pub use Rattle.find_tests.specs.Glob.{members, piece_at, pieces_of, pieces_up_to, ranges_of}
pub use Rattle.find_tests.specs.Matching.{chars_match, matches, some_rest, takes}
pub use Rattle.find_tests.specs.Private.Brackets.{NoneCloses}
pub use Rattle.find_tests.specs.Private.Front.{takes_first}
pub use Rattle.find_tests.specs.Signs.{is_sign, signs_of}
pub use Rattle.find_tests.specs.Tests.{is_selected, meets_all}
pub use Rattle.find_tests.specs.declared.pieces.Class.{Class}
pub use Rattle.find_tests.specs.declared.pieces.Class.TheVariants.{Any, Only}
pub use Rattle.find_tests.specs.declared.pieces.Piece.{Piece}
pub use Rattle.find_tests.specs.declared.pieces.Piece.TheVariants.{AnyText, OneOf}
pub use Rattle.find_tests.specs.declared.signs.Sign.{Sign}
pub use Rattle.find_tests.specs.declared.signs.Sign.TheVariants.{Literal, Plain}
pub use Rattle.find_tests.specs.declared.testing.Test.{Test}
