-- The texts that a pattern matches. Our own, after fnmatch without flags.
use Rattle.std.specs.Prelude.{ℕ, Bool, true, false, not, ◌&&◌, ◌||◌, List, [], ◌∷◌, ◌==◌, nat_le}
use Rattle.std.specs.List.{list_any}
use Rattle.std.specs.Str.{chars}
use Rattle.find_tests.specs.declared.pieces.Range.{Range}
use Rattle.find_tests.specs.declared.pieces.Class.{Class}
use Rattle.find_tests.specs.declared.pieces.Class.TheVariants.{Any, Only, Among, NotAmong}
use Rattle.find_tests.specs.declared.pieces.Piece.{Piece}
use Rattle.find_tests.specs.declared.pieces.Piece.TheVariants.{AnyText, OneOf}
use Rattle.find_tests.specs.Signs.{signs_of}
use Rattle.find_tests.specs.Glob.{pieces_of}

-- a range has the characters between its ends, both included, so one that falls has none
abbrev pub is_in : ℕ → Range → Bool
is_in c range = nat_le range.first c && nat_le c range.last

abbrev pub takes : Class → ℕ → Bool
takes Any c = true
takes (Only d) c = c == d
takes (Among ranges) c = list_any (is_in c) ranges
takes (NotAmong ranges) c = not (list_any (is_in c) ranges)

-- some division of the text has a second part that meets the test
abbrev pub some_rest : (List ℕ → Bool) → List ℕ → Bool
some_rest test [] = test []
some_rest test (c ∷ text) = test (c ∷ text) || some_rest test text

-- pieces match a text: `*` and a rest match if some division of the text has a second part that the rest matches
abbrev pub matches : List Piece → List ℕ → Bool
matches [] [] = true
matches [] (c ∷ text) = false
matches (AnyText ∷ rest) text = some_rest (λ t. matches rest t) text
matches (OneOf class ∷ rest) [] = false
matches (OneOf class ∷ rest) (c ∷ text) = takes class c && matches rest text

-- characters of a pattern match characters of a text
abbrev pub chars_match : List ℕ → List ℕ → Bool
chars_match pattern text = matches (pieces_of (signs_of pattern)) text

-- the glob relation: a pattern, read in characters, matches a text
abbrev pub glob_matches : List ℕ → List ℕ → Bool
glob_matches pattern text = chars_match (chars pattern) (chars text)
