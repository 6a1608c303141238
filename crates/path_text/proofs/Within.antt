-- Paths within others.
use Rattle.path_text.proofs.Prelude.{◌≡◌, ◌≢◌, ◌⊎◌, inl, inr, ⊎_elim, ℕ, ◌<◌, ◌≤◌, true, false, ◌||◌, List, [], ◌∷◌, length, refl, ap, ◌∙◌, sym, subst, arith}
use Rattle.path_text.proofs.Prelude.{None, length-append, false≢true, nat_eq, IsTrue, pointwise, bytes_decides, ordering_reverse, Ordering, Less, Equal}
use Rattle.path_text.proofs.Prelude.{Greater, refusal, path_cmp, front, is_under, is_within, TopsAreNested, path_cmp_total, path_cmp_same}
use Rattle.path_text.proofs.Joined.{first_slash}
use Rattle.path_text.proofs.Parts.{front_longer}
use Rattle.path_text.proofs.Preorder.{some_front}
use Rattle.path_text.proofs.Preordered.{preorder}
use Rattle.path_text.proofs.Under.{contiguous, names_under, is_under_by}

-- a path is within itself
pub same_within : (x p : List ℕ) → x ≡ p → IsTrue (is_within x p)
same_within x p e = ap (λ b. b || is_under x p) ((bytes_decides x p).1 e)

pub itself : (p : List ℕ) → IsTrue (is_within p p)
itself p = same_within p p refl

-- and within each path that it is under
pub under_within : (x p : List ℕ) → IsTrue (is_under x p) → IsTrue (is_within x p)
under_within x p h = elim (pointwise nat_eq x p) as (λ b. (b || is_under x p) ≡ true) [ true ↦ refl | false ↦ h ]

-- what is within a path is that path, or is under it
pub same_or_under : (x p : List ℕ) → IsTrue (is_within x p) → (x ≡ p) ⊎ IsTrue (is_under x p)
same_or_under x p h =
    elim (pointwise nat_eq x p) as (λ b. pointwise nat_eq x p ≡ b → (b || is_under x p) ≡ true → (x ≡ p) ⊎ IsTrue (is_under x p)) [
      | true ↦ λ same h. inl ((bytes_decides x p).0 same)
      | false ↦ λ same h. inr h
    ] refl h

-- what is under a path within a top is within the top
pub within_up : (x p top : List ℕ) → IsTrue (is_under x p) → IsTrue (is_within p top) → IsTrue (is_within x top)
within_up x p top u w =
    under_within x top (⊎_elim (λ e. subst (λ t. IsTrue (is_under x t)) e u) (λ v. contiguous.deeper x p top u v) (same_or_under p top w))

-- what is under a path is longer than it
pub under_longer : (x p : List ℕ) → IsTrue (is_under x p) → length p < length x
under_longer x p u =
    let n = names_under x p u in
    omega (arith, n.some, ap length n.whole, length-append (front p) n.names, front_longer p)

pub within_longer : (x p : List ℕ) → IsTrue (is_within x p) → length p ≤ length x
within_longer x p w = ⊎_elim (λ e. omega (arith, ap length e)) (λ u. omega (arith, under_longer x p u)) (same_or_under x p w)

pub never_under_itself : (p : List ℕ) → IsTrue (is_under p p) → ⊥
never_under_itself p u = absurd (omega (arith, under_longer p p u))

-- all paths are within `/`
pub within_root : (p : List ℕ) → refusal p ≡ None → IsTrue (is_within p (47 ∷ []))
within_root [] v = cc
within_root (b ∷ []) v = same_within (b ∷ []) (47 ∷ []) (ap (λ b. b ∷ []) (first_slash b [] v))
within_root (b ∷ c ∷ p) v =
    under_within (b ∷ c ∷ p) (47 ∷ []) (is_under_by (b ∷ c ∷ p) (47 ∷ []) (c ∷ p) (ap (λ b. b ∷ c ∷ p) (first_slash b (c ∷ p) v)) (omega arith))

-- a path has bytes
pub some_bytes : (p : List ℕ) → refusal p ≡ None → 0 < length p
some_bytes [] v = cc
some_bytes (b ∷ p) v = omega arith

-- `/` is the only path of one byte
pub root_is : (p : List ℕ) → refusal p ≡ None → length p ≡ 1 → p ≡ 47 ∷ []
root_is [] v l = cc
root_is (b ∷ []) v l = ap (λ b. b ∷ []) (first_slash b [] v)
root_is (b ∷ c ∷ p) v l = absurd (omega arith)

pub not_one : (p : List ℕ) → refusal p ≡ None → pointwise nat_eq p (47 ∷ []) ≡ false → length p ≢ 1
not_one p v off l = absurd (false≢true (sym off ∙ (bytes_decides p (47 ∷ [])).1 (root_is p v l)))

pub not_root : (p : List ℕ) → length p ≢ 1 → pointwise nat_eq p (47 ∷ []) ≡ false
not_root p l = elim (pointwise nat_eq p (47 ∷ [])) as (λ b. pointwise nat_eq p (47 ∷ []) ≡ b → b ≡ false) [
  | true ↦ λ same. absurd (l (ap length ((bytes_decides p (47 ∷ [])).0 same)))
  | false ↦ λ _. refl
] refl

-- and it is under no path
pub under_no_root : (x p : List ℕ) → IsTrue (is_under x p) → pointwise nat_eq x (47 ∷ []) ≡ false
under_no_root x p u =
    let n = names_under x p u in
    not_root x (λ l. absurd (omega (arith, l, n.some, ap length n.whole, length-append (front p) n.names, some_front p)))

-- of two tops of one path the one that comes later is within the other
pub tops_are_nested : TopsAreNested
tops_are_nested x a b v w h g =
    ⊎_elim (λ e. inl (subst (λ t. IsTrue (is_within t b)) e g))
    (λ u. ⊎_elim (λ e. inr (subst (λ t. IsTrue (is_within t a)) e h)) (λ d. by (path_cmp a b) refl u d) (same_or_under x b g)) (same_or_under x a h)
  where
    by : (o : Ordering) → path_cmp a b ≡ o → IsTrue (is_under x a) → IsTrue (is_under x b) → IsTrue (is_within a b) ⊎ IsTrue (is_within b a)
    by Less e u d = inr (under_within b a (contiguous.between a b x v w e (preorder.top_down x b d) u))
    by Equal e u d = inl (same_within a b (path_cmp_same a b e))
    by Greater e u d =
        let turned : path_cmp b a ≡ Less = path_cmp_total.antisymm b a ∙ ap ordering_reverse e in
        inl (under_within a b (contiguous.between b a x w v turned (preorder.top_down x a u) d))
