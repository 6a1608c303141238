-- The names below a path, and their paths.
use Rattle.tree_walk.proofs.Prelude.{◌≡◌, ℕ, ◌+◌, ◌<◌, ◌≤◌, List, [], ◌∷◌, ◌++◌, map, length, get_or, take, Some, ap, ◌∙◌, sym, subst, arith, append_assoc}
use Rattle.tree_walk.proofs.Prelude.{add-one, All, get_or_from_slice_get, slice_get_within, map-append, take-suc, joined}
use Rattle.std.specs.List.{slice_get}

-- one more path is pushed
pub pushed_more : (path : List ℕ) (names : List (List ℕ)) (at : ℕ) (old now new : List (List ℕ)) (child name : List ℕ) →
    slice_get names at ≡ Some name → child ≡ joined path name → new ≡ now ++ child ∷ [] →
    now ≡ old ++ map (joined path) (take at names) → new ≡ old ++ map (joined path) (take (at + 1) names)
pushed_more path names at old now new child name e c n p =
    let front : take (at + 1) names ≡ take at names ++ name ∷ [] =
    ap (λ k. take k names) (add-one at) ∙ take-suc names at name (slice_get_within names at name e)
    ∙ ap (λ x. take at names ++ x ∷ []) (get_or_from_slice_get names at name name e) in
    n ∙ (λ i. p i ++ c i ∷ []) ∙ append_assoc old (map (joined path) (take at names)) (joined path name ∷ [])
    ∙ ap (λ l. old ++ l) (sym (map-append (joined path) (take at names) (name ∷ []))) ∙ ap (λ l. old ++ map (joined path) l) (sym front)

-- no child is too long
pub not_long : (path : List ℕ) (names : List (List ℕ)) (k : ℕ) (name : List ℕ) → All (λ name. length (joined path name) ≤ 4095) names →
    slice_get names k ≡ Some name → 4095 < length (joined path name) → ⊥
not_long path names k name short e h =
    let l : length (joined path (get_or names k name)) ≤ 4095 = short k name (slice_get_within names k name e) in
    let m = subst (λ n. length (joined path n) ≤ 4095) (get_or_from_slice_get names k name name e) l in
    omega arith
