-- What is in a root, as the walk says it, is at it or under it, as paths say it.
use Rattle.copy_report.proofs.Prelude.{◌≡◌, ⊎_elim, ℕ, true, List, [], ◌∷◌, map, None, subst, AllByRecursion, list_any, or_left, or_right, refusal, is_within}
use Rattle.copy_report.proofs.Prelude.{fronts_within, Pair, is_in, In}

-- ---- what is in some root is within a source

-- a path in a source that a pair has is within it
pub within_source : (x s : List ℕ) (pairs : List Pair) → refusal x ≡ None → AllByRecursion (λ pair. refusal pair.source ≡ None) pairs →
    In s (map (λ (pair : Pair). pair.source) pairs) → is_in x s ≡ true → list_any (λ pair. is_within x pair.source) pairs ≡ true
within_source x s [] v valid i h = absurd i
within_source x s (pair ∷ pairs) v valid i h =
    ⊎_elim
    (λ is. or_left (is_within x pair.source) _ (fronts_within x pair.source v valid.0 (subst (λ y. is_in x y ≡ true) is h)))
    (λ later. or_right (is_within x pair.source) _ (within_source x s pairs v valid.1 later h)) i
