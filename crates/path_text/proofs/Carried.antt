-- A parent moves with its child.
use Rattle.path_text.proofs.Prelude.{◌≡◌, ⊎_elim, ℕ, ◌<◌, List, [], ◌∷◌, ◌++◌, length, None, ap, ◌∙◌, sym, arith, length-append, append_assoc, IsTrue, refusal}
use Rattle.path_text.proofs.Prelude.{parent_of, front, is_under, is_within, grafted, below_of, ParentMovesToo}
use Rattle.path_text.proofs.Parents.{or_root, some_before, parent_cut, Ended, ended, Cut, cut, parent_valid}
use Rattle.path_text.proofs.Fronts.{seam}
use Rattle.path_text.proofs.Parts.{begins, grafted_names, nothing_left}
use Rattle.path_text.proofs.Preorder.{front-joined}
use Rattle.path_text.proofs.Under.{IsUnder, names_under, is_under_by, not_front}
use Rattle.path_text.proofs.Within.{same_within, under_no_root, under_within}

below_is : (x top r : List ℕ) → x ≡ front top ++ r → below_of x top ≡ 47 ∷ r
below_is x top r e = ap (λ q. 47 ∷ q) (sym (begins x (front top) r e).0)

-- a path grafted on a target, where its names begin
grafted_is : (t : List ℕ) (e : Ended t) (r : List ℕ) → 0 < length r → grafted t (47 ∷ r) ≡ e.before ++ 47 ∷ r
grafted_is t e r some =
    grafted_names t r some ∙ sym (front-joined t r) ∙ ap (λ f. f ++ r) e.front_is ∙ append_assoc e.before (47 ∷ []) r

-- a source moved to a target is the target
pub grafted_itself : (t s : List ℕ) → grafted t (below_of s s) ≡ t
grafted_itself t s = ap (λ r. grafted t (47 ∷ r)) (sym (nothing_left s))

-- how the parent of a path under a source moves
record Moves (t s p : List ℕ) : Type 0 where
  within : IsTrue (is_within (parent_of p) s)
  moved : parent_of (grafted t (below_of p s)) ≡ grafted t (below_of (parent_of p) s)

moves : (p s t : List ℕ) → refusal p ≡ None → refusal s ≡ None → refusal t ≡ None → IsTrue (is_under p s) → Moves t s p
moves p s t vp vs vt u =
    ⊎_elim directly (λ k. by k.between k.longer k.rest)
    (seam es.before eq.before below.names c.name (sym (ap (λ f. f ++ below.names) es.front_is ∙ append_assoc es.before (47 ∷ []) below.names)
    ∙ sym below.whole ∙ c.whole ∙ ap (λ f. f ++ c.name) eq.front_is ∙ append_assoc eq.before (47 ∷ []) c.name) c.bare)
  where
    q : List ℕ
    q = parent_of p

    vq : refusal q ≡ None
    vq = parent_valid p vp

    c : Cut p
    c = cut p vp (under_no_root p s u)

    below : IsUnder p s
    below = names_under p s u

    et : Ended t
    et = ended t vt

    es : Ended s
    es = ended s vs

    eq : Ended q
    eq = ended q vq

    left : grafted t (below_of p s) ≡ et.before ++ 47 ∷ below.names
    left = ap (grafted t) (below_is p s below.names below.whole) ∙ grafted_is t et below.names below.some

    directly : (eq.before ≡ es.before) × (below.names ≡ c.name) → Moves t s p
    directly same =
        let is : q ≡ s = eq.is ∙ ap or_root same.0 ∙ sym es.is in
        record {
          within = same_within q s is;
          moved = ap parent_of (left ∙ ap (λ r. et.before ++ 47 ∷ r) same.1) ∙ parent_cut et.before c.name c.bare ∙ sym et.is
              ∙ sym (ap (λ x. grafted t (below_of x s)) is ∙ grafted_itself t s);
        }

    by : (w : List ℕ) → eq.before ≡ es.before ++ 47 ∷ w → below.names ≡ w ++ 47 ∷ c.name → Moves t s p
    by [] longer rest =
        let ends : q ≡ front s = eq.is ∙ ap or_root longer ∙ some_before es.before [] ∙ sym es.front_is in
        let is : q ≡ s = not_front s q vs vq ends in
        let same : length (front q) ≡ length (front s) = ap (λ x. length (front x)) is in
        absurd (omega (
          arith,
          same,
          ap length eq.front_is,
          ap length es.front_is,
          ap length longer,
          length-append eq.before (47 ∷ []),
          length-append es.before (47 ∷ []),
        ))
    by (b ∷ w) longer rest =
        let path : q ≡ front s ++ b ∷ w =
        eq.is ∙ ap or_root longer ∙ some_before es.before (b ∷ w) ∙ sym (ap (λ f. f ++ b ∷ w) es.front_is ∙ append_assoc es.before (47 ∷ []) (b ∷ w)) in
        let some : 0 < length (b ∷ w) = omega arith in
        record {
          within = under_within q s (is_under_by q s (b ∷ w) path some);
          moved = ap parent_of (left ∙ ap (λ r. et.before ++ 47 ∷ r) rest ∙ sym (append_assoc et.before (47 ∷ b ∷ w) (47 ∷ c.name)))
              ∙ parent_cut (et.before ++ 47 ∷ b ∷ w) c.name c.bare ∙ some_before et.before (b ∷ w)
              ∙ sym (ap (grafted t) (below_is q s (b ∷ w) path) ∙ grafted_is t et (b ∷ w) some);
        }

pub parent_moves_too : ParentMovesToo
parent_moves_too = record { within = λ p s v w u. (moves p s s v w w u).within; moved = λ p s t v w x u. (moves p s t v w x u).moved }
