-- The answers of the code that reads brackets. Our own.
use Rattle.std.specs.Prelude.{◌≡◌, ℕ, Bool, true, false, ◌&&◌, not, List, [], ◌∷◌, drop, Option, Some, None}
use Rattle.find_tests.specs.declared.pieces.Class.{Class}
use Rattle.find_tests.specs.declared.pieces.Range.{Range}
use Rattle.find_tests.specs.declared.signs.Sign.{Sign}
use Rattle.find_tests.specs.declared.signs.Sign.TheVariants.{Plain}
use Rattle.find_tests.specs.Signs.{is_sign}
use Rattle.find_tests.specs.Glob.{has_close, ranges_of, members, behind_members, is_closed, bracket, behind_negation}

-- the class of a closed bracket, whose signs are passed, or nothing of one that is not closed
abbrev pub IsBracket : List Sign → List Sign → Option Class → Type 0
IsBracket old new None = (is_closed (behind_negation old) ≡ false) × (new ≡ old)
IsBracket old new (Some class) = (is_closed (behind_negation old) ≡ true) × (class ≡ bracket old) × (new ≡ behind_members (behind_negation old))

-- if no bracket closes any more, none that begins after so many signs does: there is no `]` there
abbrev pub NoneCloses : Bool → ℕ → List Sign → Type 0
NoneCloses true passed signs = Unit {0}
NoneCloses false passed signs = has_close (drop passed signs) ≡ false

-- the same of its members, but signs are passed if the bracket is not closed
abbrev pub IsMembers : List Sign → List Sign → Option (List Range) → Type 0
IsMembers old new None = is_closed old ≡ false
IsMembers old new (Some ranges) = (is_closed old ≡ true) × (ranges ≡ ranges_of (members old)) × (new ≡ behind_members old)

-- whether a `-` and a member that is not the closing `]` come next
abbrev pub goes_on : List Sign → Bool
goes_on [] = false
goes_on (d ∷ []) = false
goes_on (d ∷ e ∷ rest) = is_sign 45 d && not (is_sign 93 e)

-- that member, if they do, and both are passed
abbrev pub IsRangeEnd : List Sign → List Sign → Option Sign → Type 0
IsRangeEnd old new None = (goes_on old ≡ false) × (new ≡ old)
IsRangeEnd old new (Some last) = (is_sign 93 last ≡ false) × (old ≡ Plain 45 ∷ last ∷ new)
