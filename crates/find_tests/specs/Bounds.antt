-- Bounds, and the texts that say them. Our own, after find.
use Rattle.std.specs.Prelude.{ℕ, ◌+◌, ◌-◌, ◌*◌, ◌^◌, Bool, ◌&&◌, List, [], ◌∷◌, length, drop, fold, if◌then◌else◌, ◌==◌, nat_lt, Option, Some, None}
use Rattle.std.specs.Prelude.{Result, Ok, Err}
use Rattle.std.specs.Char.{is_ascii_digit}
use Rattle.std.specs.List.{take_while}
use Rattle.find_tests.specs.declared.bounds.Bound.{Bound}
use Rattle.find_tests.specs.declared.bounds.Bound.TheVariants.{Equal, More, Less}
use Rattle.find_tests.specs.declared.errors.TestError.{TestError}
use Rattle.find_tests.specs.declared.errors.TestError.TheVariants.{BadNumber, BadUnit}

abbrev pub is_within : Bound → ℕ → Bool
is_within (Equal m) n = n == m
is_within (More m) n = nat_lt m n
is_within (Less m) n = nat_lt n m

-- the digits at the front of a text, and the rest of it
abbrev pub digits_of : List ℕ → List ℕ
digits_of text = take_while is_ascii_digit text

abbrev pub behind_digits : List ℕ → List ℕ
behind_digits text = drop (length (digits_of text)) text

-- the number that digits say
abbrev pub decimal : List ℕ → ℕ
decimal digits = fold (λ n digit. n * 10 + (digit - 48)) 0 digits

-- the amount of a unit: no letter is one, and sizes have bytes `B` and `k`, `M` and `G`
abbrev pub unit_of : Bool → List ℕ → Option ℕ
unit_of sized [] = Some 1
unit_of sized (c ∷ []) =
    if sized && c == 66 then Some 1
    else if sized && c == 107 then Some 1024
    else if sized && c == 77 then Some 1048576
    else if sized && c == 71 then Some 1073741824
    else None
unit_of sized (c ∷ d ∷ rest) = None

-- digits times a unit, if there are few enough digits and the number fits
abbrev pub product_of : List ℕ → Option ℕ → Result ℕ TestError
product_of digits None = Err BadUnit
product_of digits (Some unit) =
    if nat_lt 40 (length digits) then Err BadNumber
    else if nat_lt (decimal digits * unit) (2 ^ 64) then Ok (decimal digits * unit)
    else Err BadNumber

abbrev pub amount_of : Bool → List ℕ → Result ℕ TestError
amount_of sized text =
    if length (digits_of text) == 0 then Err BadNumber
    else product_of (digits_of text) (unit_of sized (behind_digits text))

abbrev pub more_of : Result ℕ TestError → Result Bound TestError
more_of (Ok n) = Ok (More n)
more_of (Err e) = Err e

abbrev pub less_of : Result ℕ TestError → Result Bound TestError
less_of (Ok n) = Ok (Less n)
less_of (Err e) = Err e

abbrev pub equal_of : Result ℕ TestError → Result Bound TestError
equal_of (Ok n) = Ok (Equal n)
equal_of (Err e) = Err e

-- the bound that a text says: `+N` is more, `-N` is less, and `N` is equal; `sized` is whether units may follow
abbrev pub bound_reading : Bool → List ℕ → Result Bound TestError
bound_reading sized [] = Err BadNumber
bound_reading sized (c ∷ rest) =
    if c == 43 then more_of (amount_of sized rest)
    else if c == 45 then less_of (amount_of sized rest)
    else equal_of (amount_of sized (c ∷ rest))
