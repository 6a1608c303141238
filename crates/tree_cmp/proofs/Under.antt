-- What lies under a path stands together, right behind it.
use Rattle.tree_cmp.proofs.Prelude.{◌≡◌, false, List, ℕ, ◌∙◌, sym, None, Less, false≢true, false_from_ne_true, path_cmp, is_under, UnderIsContiguous, refusal}

-- behind a path that is not under u, nothing is under u
pub none_later : UnderIsContiguous → (u x z : List ℕ) → refusal u ≡ None → refusal x ≡ None → path_cmp u x ≡ Less → is_under x u ≡ false
    → path_cmp x z ≡ Less → is_under z u ≡ false
none_later contiguous u x z v w e n l = false_from_ne_true (is_under z u) (λ t. false≢true (sym n ∙ contiguous.between u x z v w e l t))
