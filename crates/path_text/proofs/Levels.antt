-- What is under a path has more names.
use Rattle.path_text.proofs.Prelude.{◌≡◌, ⊎_elim, ℕ, ◌<◌, ◌≤◌, false, cond, List, [], ◌∷◌, ◌++◌, length, ap, ◌∙◌, sym, subst, arith, None, append_assoc}
use Rattle.path_text.proofs.Prelude.{false≢true, length-slice_split, sum_by-append, sum_by-cons, nat_eq, IsTrue, slice_split, pointwise, bytes_decides}
use Rattle.path_text.proofs.Prelude.{is_slash, level_of, parent_of, refusal, front, is_under, is_within}
use Rattle.path_text.proofs.Parents.{parent_under, parent_valid}
use Rattle.path_text.proofs.Parts.{front_long, level_is}
use Rattle.path_text.proofs.Under.{names_under}
use Rattle.path_text.proofs.Within.{same_or_under, some_bytes}

more_names : (a b : List ℕ) → length (slice_split is_slash a) < length (slice_split is_slash (a ++ 47 ∷ b))
more_names a b = omega (
  arith,
  length-slice_split is_slash a,
  length-slice_split is_slash (a ++ 47 ∷ b),
  sum_by-append (λ x. cond (is_slash x) 1 0) a (47 ∷ b),
  sum_by-cons (λ x. cond (is_slash x) 1 0) 47 b,
)

long : (a b : ℕ) (p : List ℕ) → level_of (a ∷ b ∷ p) ≡ length (slice_split is_slash (b ∷ p))
long a b p = level_is (a ∷ b ∷ p) (λ l. absurd (omega arith))

below : (p r : List ℕ) → 0 < length p → 0 < length r → level_of p < level_of (front p ++ r)
below [] r l m = absurd (omega arith)
below (a ∷ []) [] l m = absurd (omega arith)
below (a ∷ []) (b ∷ r) l m = omega (arith, long a b r, length-slice_split is_slash (b ∷ r))
below (a ∷ b ∷ p) r l m =
    let whole : level_of (front (a ∷ b ∷ p) ++ r) ≡ length (slice_split is_slash ((b ∷ p) ++ 47 ∷ r)) =
    ap (λ f. level_of (f ++ r)) (front_long a b p) ∙ ap level_of (append_assoc (a ∷ b ∷ p) (47 ∷ []) r) ∙ long a b (p ++ 47 ∷ r) in
    omega (arith, whole, long a b p, more_names (b ∷ p) r)

pub under_deeper : (q p : List ℕ) → 0 < length p → IsTrue (is_under q p) → level_of p < level_of q
under_deeper q p l u = let n = names_under q p u in subst (λ x. level_of p < level_of x) (sym n.whole) (below p n.names l n.some)

-- what is within a path and another one is under it
pub deeper : (q p : List ℕ) → 0 < length p → IsTrue (is_within q p) → pointwise nat_eq q p ≡ false → level_of p < level_of q
deeper q p l w off = ⊎_elim (λ e. absurd (false≢true (sym off ∙ (bytes_decides q p).1 e))) (λ u. under_deeper q p l u) (same_or_under q p w)

pub as_deep : (q p : List ℕ) → 0 < length p → IsTrue (is_within q p) → level_of p ≤ level_of q
as_deep q p l w = ⊎_elim (λ e. omega (arith, ap level_of e)) (λ u. omega (arith, under_deeper q p l u)) (same_or_under q p w)

-- the parent of a path is on a level above it
pub parent_above : (q : List ℕ) → refusal q ≡ None → pointwise nat_eq q (47 ∷ []) ≡ false → level_of (parent_of q) < level_of q
parent_above q v off = under_deeper q (parent_of q) (some_bytes (parent_of q) (parent_valid q v)) (parent_under q v off)
