-- The signs of a pattern: its characters, of which some are literal. Our own, after fnmatch.
use Rattle.std.specs.Prelude.{ℕ, Bool, true, false, List, [], ◌∷◌, if◌then◌else◌, ◌==◌}
use Rattle.find_tests.specs.declared.signs.Sign.{Sign}
use Rattle.find_tests.specs.declared.signs.Sign.TheVariants.{Plain, Literal}

-- the signs of characters, of which the first may follow a backslash. A backslash at the end is literal
abbrev pub signs_behind : Bool → List ℕ → List Sign
signs_behind false [] = []
signs_behind false (c ∷ rest) = if c == 92 then signs_behind true rest else Plain c ∷ signs_behind false rest
signs_behind true [] = Literal 92 ∷ []
signs_behind true (c ∷ rest) = Literal c ∷ signs_behind false rest

-- a backslash makes the next character literal
abbrev pub signs_of : List ℕ → List Sign
signs_of pattern = signs_behind false pattern

abbrev pub char_of : Sign → ℕ
char_of (Plain c) = c
char_of (Literal c) = c

-- whether a sign is this character, and no backslash made it literal
abbrev pub is_sign : ℕ → Sign → Bool
is_sign c (Plain d) = d == c
is_sign c (Literal d) = false
