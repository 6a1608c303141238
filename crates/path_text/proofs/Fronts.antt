-- Paths of which the fronts begin alike.
use Rattle.path_text.proofs.Prelude.{◌≡◌, ◌⊎◌, inl, inr, ⊎_elim, ℕ, Bool, true, false, ◌||◌, List, [], ◌∷◌, ◌++◌, length, drop, None, refl, ap, ◌∙◌, sym, arith}
use Rattle.path_text.proofs.Prelude.{append-nil, append_assoc, false≢true, nat_eq, IsTrue, list_any, starts_with, is_slash, refusal, front, is_within}
use Rattle.path_text.proofs.Parents.{or_root, some_before, Ended, ended}
use Rattle.path_text.proofs.Preordered.{begins}
use Rattle.path_text.proofs.Under.{is_under_by, not_front}
use Rattle.path_text.proofs.Within.{same_within, under_within}

pub has_slash : (y n : List ℕ) → list_any is_slash (y ++ 47 ∷ n) ≡ true
has_slash [] n = refl
has_slash (b ∷ y) n = second (is_slash b) (list_any is_slash (y ++ 47 ∷ n)) (has_slash y n)
  where
    second : (a b : Bool) → b ≡ true → (a || b) ≡ true
    second true b e = refl
    second false b e = e

-- how a text with a slash stands to one whose slash is its last
pub record Behind (z y r n : List ℕ) : Type 0 where
  pub between : List ℕ
  pub longer : y ≡ z ++ 47 ∷ between
  pub rest : r ≡ between ++ 47 ∷ n

-- two cuts of a text at a slash, the second one at its last: they are one, or the first one comes before
pub seam : (z y r n : List ℕ) → z ++ 47 ∷ r ≡ y ++ 47 ∷ n → list_any is_slash n ≡ false → ((y ≡ z) × (r ≡ n)) ⊎ Behind z y r n
seam [] [] r n e bare = inl (refl, cc)
seam [] (b ∷ y) r n e bare =
    let first : 47 ≡ b = cc in
    let rest : r ≡ y ++ 47 ∷ n = cc in
    inr (record { between = y; longer = ap (λ c. c ∷ y) (sym first); rest = rest })
seam (a ∷ z) [] r n e bare = let rest : n ≡ z ++ 47 ∷ r = cc in absurd (false≢true (sym bare ∙ ap (list_any is_slash) rest ∙ has_slash z r))
seam (a ∷ z) (b ∷ y) r n e bare =
    let first : b ≡ a = cc in
    let rest : z ++ 47 ∷ r ≡ y ++ 47 ∷ n = cc in
    ⊎_elim (λ same. inl ((λ i. first i ∷ same.0 i), same.1))
    (λ k. inr (record { between = k.between; longer = (λ i. first i ∷ k.longer i); rest = k.rest }))
    (seam z y r n rest bare)

-- a path that begins with the front of another is within it
pub behind_front : (x p rest : List ℕ) → refusal x ≡ None → refusal p ≡ None → x ≡ front p ++ rest → IsTrue (is_within x p)
behind_front x p [] v w e = same_within x p (not_front p x w v (e ∙ append-nil (front p)))
behind_front x p (b ∷ rest) v w e = under_within x p (is_under_by x p (b ∷ rest) e (omega arith))

-- as is one of which the front begins so
pub fronts_within : (x p : List ℕ) → refusal x ≡ None → refusal p ≡ None → starts_with nat_eq (front x) (front p) ≡ true → IsTrue (is_within x p)
fronts_within x p v w h = by (drop (length (front p)) (front x)) (begins (front x) (front p) h)
  where
    ex : Ended x
    ex = ended x v

    ep : Ended p
    ep = ended p w

    same : ex.before ≡ ep.before → IsTrue (is_within x p)
    same e = same_within x p (ex.is ∙ ap or_root e ∙ sym ep.is)

    longer : (between : List ℕ) → ex.before ≡ ep.before ++ 47 ∷ between → IsTrue (is_within x p)
    longer between e =
        behind_front x p between v w (ex.is ∙ ap or_root e ∙ some_before ep.before between
        ∙ sym (ap (λ f. f ++ between) ep.front_is ∙ append_assoc ep.before (47 ∷ []) between))

    by : (rest : List ℕ) → front x ≡ front p ++ rest → IsTrue (is_within x p)
    by rest e =
        ⊎_elim (λ both. same both.0) (λ k. longer k.between k.longer)
        (seam ep.before ex.before rest [] (sym (ap (λ f. f ++ rest) ep.front_is ∙ append_assoc ep.before (47 ∷ []) rest) ∙ sym e ∙ ex.front_is) refl)
