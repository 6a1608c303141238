-- Paths of which no two are the same. Our own.
use Rattle.std.specs.Prelude.{ℕ, Bool, true, not, ◌&&◌, List, [], ◌∷◌, nat_eq}
use Rattle.std.specs.List.{list_any}
use Rattle.std.specs.Cmp.Lexicographic.{pointwise}

-- no path comes again after itself
abbrev pub all_differ : List (List ℕ) → Bool
all_differ [] = true
all_differ (p ∷ rest) = not (list_any (λ q. pointwise nat_eq q p) rest) && all_differ rest
