-- Whether a path is among some.
use Rattle.std.specs.Prelude.{ℕ, Bool, List, nat_eq}
use Rattle.std.specs.List.{list_any}
use Rattle.std.specs.Cmp.Lexicographic.{pointwise}

abbrev pub has_path : List (List ℕ) → List ℕ → Bool
has_path paths q = list_any (λ p. pointwise nat_eq q p) paths
