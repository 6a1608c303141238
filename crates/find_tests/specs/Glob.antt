-- The pieces of which a pattern is made, by cases over its characters. Our own, after fnmatch without flags.
use Rattle.std.specs.Prelude.{ℕ, Bool, true, false, List, [], ◌∷◌, length, if◌then◌else◌, zero, suc}
use Rattle.find_tests.specs.declared.signs.Sign.{Sign}
use Rattle.find_tests.specs.declared.pieces.Range.{Range}
use Rattle.find_tests.specs.declared.pieces.Class.{Class}
use Rattle.find_tests.specs.declared.pieces.Class.TheVariants.{Any, Only, Among, NotAmong}
use Rattle.find_tests.specs.declared.pieces.Piece.{Piece}
use Rattle.find_tests.specs.declared.pieces.Piece.TheVariants.{AnyText, OneOf}
use Rattle.find_tests.specs.Signs.{char_of, is_sign}

-- the signs before the closing `]`, those after it, and whether there is one
abbrev pub before_close : List Sign → List Sign
before_close [] = []
before_close (s ∷ rest) = if is_sign 93 s then [] else s ∷ before_close rest

abbrev pub behind_close : List Sign → List Sign
behind_close [] = []
behind_close (s ∷ rest) = if is_sign 93 s then rest else behind_close rest

abbrev pub has_close : List Sign → Bool
has_close [] = false
has_close (s ∷ rest) = if is_sign 93 s then true else has_close rest

-- the ranges of the members of a bracket: a member, `-` and another member are a range by code points. Each other one is itself
abbrev pub ranges_of : List Sign → List Range
ranges_of [] = []
ranges_of (s ∷ []) = record { first = char_of s; last = char_of s } ∷ []
ranges_of (s ∷ d ∷ []) = record { first = char_of s; last = char_of s } ∷ record { first = char_of d; last = char_of d } ∷ []
ranges_of (s ∷ d ∷ e ∷ rest) =
    if is_sign 45 d then record { first = char_of s; last = char_of e } ∷ ranges_of rest
    else record { first = char_of s; last = char_of s } ∷ ranges_of (d ∷ e ∷ rest)

-- whether a bracket begins with `!`, and the signs after it
abbrev pub is_negated : List Sign → Bool
is_negated [] = false
is_negated (s ∷ rest) = is_sign 33 s

abbrev pub behind_negation : List Sign → List Sign
behind_negation [] = []
behind_negation (s ∷ rest) = if is_sign 33 s then rest else s ∷ rest

-- the members of a bracket, of which the first may be a `]`; the signs after its closing `]`; and whether it has one
abbrev pub members : List Sign → List Sign
members [] = []
members (s ∷ rest) = s ∷ before_close rest

abbrev pub behind_members : List Sign → List Sign
behind_members [] = []
behind_members (s ∷ rest) = behind_close rest

abbrev pub is_closed : List Sign → Bool
is_closed [] = false
is_closed (s ∷ rest) = has_close rest

-- whether a bracket begins with this sign: a `[` that is closed
abbrev pub is_bracket : Sign → List Sign → Bool
is_bracket s rest = if is_sign 91 s then is_closed (behind_negation rest) else false

-- one character that is a member, or after `!` one that is not
abbrev pub bracket : List Sign → Class
bracket rest = if is_negated rest then NotAmong (ranges_of (members (behind_negation rest))) else Among (ranges_of (members (behind_negation rest)))

-- the piece that a sign begins, together with the signs after it
abbrev pub piece_at : Sign → List Sign → Piece
piece_at s rest =
    if is_sign 42 s then AnyText
    else if is_sign 63 s then OneOf Any
    else if is_bracket s rest then OneOf (bracket rest)
    else OneOf (Only (char_of s))

-- the signs after that piece
abbrev pub behind_piece : Sign → List Sign → List Sign
behind_piece s rest = if is_bracket s rest then behind_members (behind_negation rest) else rest

-- the pieces of at most n signs
abbrev pub pieces_up_to : ℕ → List Sign → List Piece
pieces_up_to n [] = []
pieces_up_to zero (s ∷ rest) = []
pieces_up_to (suc n) (s ∷ rest) = piece_at s rest ∷ pieces_up_to n (behind_piece s rest)

-- the pieces of a pattern, one after the other
unfoldable pub pieces_of : List Sign → List Piece
pieces_of signs = pieces_up_to (length signs) signs
