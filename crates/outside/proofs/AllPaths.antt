-- The first of some paths, one after the other.
use Rattle.outside.proofs.Prelude.{◌≡◌, ◌<◌, ◌≤◌, ℕ, ◌+◌, List, Some, None, ap, ◌∙◌, sym, arith, slice_get, get_or, length, below_more, slice_get_within}
use Rattle.outside.proofs.Prelude.{get_or_from_slice_get, refusal}

-- the first k are paths
abbrev pub FirstValid : List (List ℕ) → ℕ → Type 0
FirstValid paths k = (i : ℕ) (x : List ℕ) → i < k → slice_get paths i ≡ Some x → refusal x ≡ None

pub one_more : (paths : List (List ℕ)) (k : ℕ) (y : List ℕ) → y ≡ get_or paths k y → refusal y ≡ None → FirstValid paths k → FirstValid paths (k + 1)
one_more paths k y at fine first i x l here =
    below_more (λ j. (z : List ℕ) → slice_get paths j ≡ Some z → refusal z ≡ None) k (λ j less z there. first j z less there)
    (λ z there. ap refusal (sym (get_or_from_slice_get paths k z y there) ∙ sym at) ∙ fine) i l x here

pub all_valid : (paths : List (List ℕ)) (k : ℕ) → length paths ≤ k → FirstValid paths k → (i : ℕ) (x : List ℕ) → slice_get paths i ≡ Some x → refusal x ≡ None
all_valid paths k e first i x here = first i x (omega (arith, e, slice_get_within paths i x here)) here
