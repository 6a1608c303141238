-- Counts of faults of several readers.
use Rattle.tree_cmp.proofs.Prelude.{◌≡◌, ℕ, List, [], ◌∷◌, arith, NoneFell, RoseTogether}

pub NoneFell-same : (counts : List ℕ) → NoneFell counts counts
NoneFell-same [] = tt
NoneFell-same (n ∷ counts) = (omega arith, NoneFell-same counts)

-- no fault is told, and no count changed
pub RoseTogether-none : (k : ℕ) (counts : List ℕ) → k ≡ 0 → RoseTogether k counts counts
RoseTogether-none k counts none = λ e. omega arith
