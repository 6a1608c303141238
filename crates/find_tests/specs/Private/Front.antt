-- How far the pieces before the first `*` match a text, and the conclusion for the whole. Our own.
use Rattle.std.specs.Prelude.{◌≡◌, ℕ, ◌<◌, ◌≤◌, Bool, true, false, List, [], ◌∷◌, length}
use Rattle.std.specs.Str.{chars}
use Rattle.find_tests.specs.declared.matching.Front.{Front}
use Rattle.find_tests.specs.declared.matching.Front.TheVariants.{Star, Whole, Fails}
use Rattle.find_tests.specs.declared.pieces.Class.{Class}
use Rattle.find_tests.specs.declared.pieces.Piece.{Piece}
use Rattle.find_tests.specs.declared.pieces.Piece.TheVariants.{AnyText}
use Rattle.find_tests.specs.Matching.{takes, matches}

-- whether the first character of a text is of a class
abbrev pub takes_first : Class → List ℕ → Bool
takes_first class [] = false
takes_first class (c ∷ text) = takes class c

-- the pieces match the text as `*` and the pieces after it match the rest, also if a `*` is before them
pub record IsCarried (pieces : List Piece) (text : List ℕ) (behind : List Piece) (rest : List ℕ) : Type 0 where
  pub alone : matches pieces (chars text) ≡ matches (AnyText ∷ behind) (chars rest)
  pub starred : matches (AnyText ∷ pieces) (chars text) ≡ matches (AnyText ∷ behind) (chars rest)
  pub fewer : length behind < length pieces
  pub shorter : length rest ≤ length text

abbrev pub IsFront : List Piece → List ℕ → Front → Type 0
IsFront pieces text (Star behind rest) = IsCarried pieces text behind.now rest.now
IsFront pieces text Whole = matches pieces (chars text) ≡ true
IsFront pieces text Fails = matches pieces (chars text) ≡ false
