-- A set of paths, asked for one of them.
use Rattle.level_work.proofs.Prelude.{◌≡◌, ℕ, Bool, true, false, cond, ◌||◌, List, [], ◌∷◌, refl, ap, ◌∙◌, sym, nat_eq, list_any, is_eq, pointwise}
use Rattle.level_work.proofs.Prelude.{bytes_decides, path_cmp, path_cmp_ties, has_path}

-- two lists of bytes are compared as well the other way round
pub turn : (q p : List ℕ) → pointwise nat_eq q p ≡ pointwise nat_eq p q
turn q p = by (pointwise nat_eq q p) (pointwise nat_eq p q) refl refl
  where
    by : (a b : Bool) → pointwise nat_eq q p ≡ a → pointwise nat_eq p q ≡ b → pointwise nat_eq q p ≡ pointwise nat_eq p q
    by true b e f = e ∙ sym ((bytes_decides p q).1 (sym ((bytes_decides q p).0 e)))
    by false true e f = (bytes_decides q p).1 (sym ((bytes_decides p q).0 f)) ∙ sym f
    by false false e f = e ∙ sym f

pub is_there : (paths : List (List ℕ)) (q : List ℕ) → list_any (λ p. is_eq (path_cmp q p)) paths ≡ has_path paths q
is_there [] q = refl
is_there (p ∷ paths) q = ap (λ b. b || list_any (λ p. is_eq (path_cmp q p)) paths) (sym (path_cmp_ties q p))
    ∙ ap (λ b. pointwise nat_eq q p || b) (is_there paths q)

pub is_added : (old new : List (List ℕ)) (path : List ℕ)
    → ((q : List ℕ) → list_any (λ p. is_eq (path_cmp q p)) new
    ≡ cond (is_eq (path_cmp path q)) true (list_any (λ p. is_eq (path_cmp q p)) old)) → (q : List ℕ)
    → has_path new q ≡ (pointwise nat_eq q path || has_path old q)
is_added old new path h q = sym (is_there new q) ∙ h q
    ∙ ap (λ b. cond b true (list_any (λ p. is_eq (path_cmp q p)) old)) (sym (path_cmp_ties path q) ∙ turn path q)
    ∙ either (pointwise nat_eq q path) ∙ ap (λ b. pointwise nat_eq q path || b) (is_there old q)
  where
    either : (b : Bool) → cond b true (list_any (λ p. is_eq (path_cmp q p)) old) ≡ (b || list_any (λ p. is_eq (path_cmp q p)) old)
    either true = refl
    either false = refl
