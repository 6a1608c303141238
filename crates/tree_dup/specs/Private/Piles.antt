-- Paths divided into piles. Our own.
-- Only clauses of this crate's own functions cite this file.
use Rattle.std.specs.Prelude.{ℕ, List, min, nat_eq}
use Rattle.std.specs.List.{count_by, sum_by}
use Rattle.std.specs.Cmp.Lexicographic.{pointwise}

-- how often a path stands in a pile
abbrev pub times : List ℕ → List (List ℕ) → ℕ
times p pile = count_by (pointwise nat_eq p) pile

-- and in some piles
abbrev pub times_in : List ℕ → List (List (List ℕ)) → ℕ
times_in p piles = sum_by (times p) piles

-- how often two paths stand in a pile together
abbrev pub joints : List ℕ → List ℕ → List (List ℕ) → ℕ
joints p q pile = min (times p pile) (times q pile)

-- and in some piles
abbrev pub joints_in : List ℕ → List ℕ → List (List (List ℕ)) → ℕ
joints_in p q piles = sum_by (joints p q) piles
