-- The laws of path order, from what precedes what.
use Rattle.path_text.proofs.Prelude.{◌≡◌, ℕ, ◌<◌, Bool, true, false, cond, ◌||◌, List, [], ◌∷◌, ◌++◌, length, take, drop, refl, ap, ◌∙◌, sym, arith}
use Rattle.path_text.proofs.Prelude.{append_assoc, length-drop, ◌==◌, nat_lt, nat_eq, starts_with, nat_cmp, ordering_then, Ordering, Less, first_so, second_so}
use Rattle.path_text.proofs.Prelude.{pointwise, bytes_decides, nat_tests, false≢true, take-append-drop, joined, path_cmp, byte_rank, front, is_under, is_within}
use Rattle.path_text.proofs.Prelude.{IsPreorder, slash_as_zero, has_zero, ReadsSlashAsZero}
use Rattle.std.specs.Bool.{IsTrue}
use Rattle.path_text.proofs.Preorder.{precedes, precedes-Less, less_all, prefix_less, sibling_precedes, some_bytes, no_slash}

-- what follows the front of a path
pub begins : (x f : List ℕ) → starts_with nat_eq x f ≡ true → x ≡ f ++ drop (length f) x
begins x f e = sym (take-append-drop (length f) x) ∙ ap (λ l. l ++ drop (length f) x) (sym ((bytes_decides f (take (length f) x)).0 e))

pub longer : (m n : ℕ) → nat_lt m n ≡ true → m < n
longer m n e = grind (arith, nat_tests)

pub under_after : (y r : List ℕ) → 0 < length r → path_cmp y (front y ++ r) ≡ Less
under_after y r h =
    elim (length y == 1) as (λ b. path_cmp y (cond b y (y ++ 47 ∷ []) ++ r) ≡ Less) [
      | true ↦ prefix_less y r h
      | false ↦ ap (path_cmp y) (append_assoc y (47 ∷ []) r) ∙ prefix_less y (47 ∷ r) (omega arith)
    ]

top_down : (x y : List ℕ) → IsTrue (is_under x y) → path_cmp y x ≡ Less
top_down x y e =
    let f : starts_with nat_eq x (front y) ≡ true = first_so (starts_with nat_eq x (front y)) _ e in
    let l : length (front y) < length x = longer (length (front y)) (length x) (second_so (starts_with nat_eq x (front y)) _ e) in
    ap (path_cmp y) (begins x (front y) f) ∙ under_after y (drop (length (front y)) x) (omega (arith, length-drop (length (front y)) x))

-- what is under a path that precedes another comes before that one
within_less : (x y z : List ℕ) → precedes y z ≡ true → IsTrue (is_within x y) → path_cmp x z ≡ Less
within_less x y z p e =
    elim (pointwise nat_eq x y) as (λ b. pointwise nat_eq x y ≡ b → (b || is_under x y) ≡ true → path_cmp x z ≡ Less) [
      | true ↦ λ same h. ap (λ l. path_cmp l z) ((bytes_decides x y).0 same) ∙ precedes-Less y z p
      | false ↦ λ same h. ap (λ l. path_cmp l z) (begins x (front y) (first_so (starts_with nat_eq x (front y)) _ h))
          ∙ less_all (front y) (drop (length (front y)) x) z p
    ] refl e

pub preorder : IsPreorder
preorder = record {
  top_down = top_down;
  siblings = λ p m n x v w l h. within_less x (joined p m) (joined p n) (sibling_precedes p m n (some_bytes m v) (no_slash m v) (no_slash n w) l) h;
}

either : (a b : Bool) → (a || b) ≡ false → (a ≡ false) × (b ≡ false)
either true b e = absurd (false≢true (sym e))
either false b e = (refl, e)

same_rank : (a b : ℕ) (r : Ordering) → (a == 0) ≡ false → (b == 0) ≡ false →
    ordering_then (nat_cmp (byte_rank a) (byte_rank b)) r ≡ ordering_then (nat_cmp (slash_as_zero a) (slash_as_zero b)) r
same_rank a b r p q = grind (arith, nat_tests)

pub reads_slash_as_zero : ReadsSlashAsZero
reads_slash_as_zero [] [] p q = refl
reads_slash_as_zero [] (b ∷ y) p q = refl
reads_slash_as_zero (a ∷ x) [] p q = refl
reads_slash_as_zero (a ∷ x) (b ∷ y) p q =
    let l = either (a == 0) (has_zero x) p in
    let r = either (b == 0) (has_zero y) q in
    same_rank a b (path_cmp x y) l.0 r.0 ∙ ap (ordering_then (nat_cmp (slash_as_zero a) (slash_as_zero b))) (reads_slash_as_zero x y l.1 r.1)
