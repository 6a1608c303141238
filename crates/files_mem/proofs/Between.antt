-- Where the children of a path stand among keys in path order.
use Rattle.files_mem.proofs.Prelude.{◌≡◌, ℕ, ◌<◌, ◌≤◌, Bool, true, false, ◌&&◌, ◌||◌, ◌⊎◌, inl, inr, List, [], ◌∷◌, ◌++◌, length, refl, ap, ◌∙◌, sym, subst}
use Rattle.files_mem.proofs.Prelude.{arith, cond, eqb, Some, None, append_assoc, false≢true, or_parts, ◌==◌, nat_lt, list_any, starts_with, nat_cmp}
use Rattle.files_mem.proofs.Prelude.{ordering_then, is_le, Ordering, Less, Equal, Greater, nat_tests, path_cmp, byte_rank, front, before_all, front-joined}
use Rattle.files_mem.proofs.Prelude.{self_equal, is_slash, refusal, joined, is_one_name, name_below, name_below-front, name_below-off, child_is, one_name_parts}
use Rattle.files_mem.proofs.Prelude.{short, has_slash}
use Rattle.std.proofs.Common.{length-append}
use Rattle.files_mem.proofs.Nul.{is_nul, no_nul}

pub joined_front : (p m : List ℕ) → joined p m ≡ front p ++ m
joined_front p m = sym (front-joined p m)

-- all that is under a path comes before what the path with a low byte begins
pub below_past : (k : List ℕ) → path_cmp k (k ++ 1 ∷ []) ≡ Less
below_past [] = refl
below_past (a ∷ k) = self_equal a (path_cmp k (k ++ 1 ∷ [])) ∙ below_past k

low_byte : (c : ℕ) (rest : Ordering) → (rest ≡ Less) ⊎ (rest ≡ Equal) → ordering_then (nat_cmp (byte_rank 1) (byte_rank c)) rest ≡ Greater
    → (c == 0) ≡ false → c ≡ 47
low_byte c rest h e n = grind (arith, nat_tests)

of_nil : (x : List ℕ) → (path_cmp [] x ≡ Less) ⊎ (path_cmp [] x ≡ Equal)
of_nil [] = inr refl
of_nil (c ∷ x) = inl refl

same_byte : (a c : ℕ) (r s : Ordering) → ordering_then (nat_cmp (byte_rank a) (byte_rank c)) r ≡ Less
    → ordering_then (nat_cmp (byte_rank a) (byte_rank c)) s ≡ Greater → (c ≡ a) × ((r ≡ Less) × (s ≡ Greater))
same_byte a c r s e f = (grind (arith, nat_tests), (grind (arith, nat_tests), grind (arith, nat_tests)))

-- what lies between a path and the path with a low byte is under the path
pub between : (k x : List ℕ) → path_cmp k x ≡ Less → path_cmp (k ++ 1 ∷ []) x ≡ Greater → list_any is_nul x ≡ false → (r : List ℕ) × (x ≡ k ++ 47 ∷ r)
between [] [] e g n = cc
between [] (c ∷ x) e g n = (x, ap (λ b. b ∷ x) (low_byte c (path_cmp [] x) (of_nil x) g (or_parts (c == 0) (list_any is_nul x) n).0))
between (a ∷ k) [] e g n = cc
between (a ∷ k) (c ∷ x) e g n =
    let s = same_byte a c (path_cmp k x) (path_cmp (k ++ 1 ∷ []) x) e g in
    let r = between k x s.1.0 s.1.1 (or_parts (c == 0) (list_any is_nul x) n).1 in
    (r.0, λ i. s.0 i ∷ r.1 i)

not_one : (name : List ℕ) → list_any is_slash name ≡ true → is_one_name name ≡ false
not_one name e = grind (arith, nat_tests)

-- between a child and what lies past it there is no child
pub none_between : (p k m x : List ℕ) → k ≡ front p ++ m → path_cmp k x ≡ Less → path_cmp (k ++ 1 ∷ []) x ≡ Greater → refusal x ≡ None → name_below p x ≡ None
none_between p k m x e l g v =
    let r = between k x l g (no_nul x v) in
    name_below-front p x (m ++ 47 ∷ r.0) (r.1 ∙ ap (λ k. k ++ 47 ∷ r.0) e ∙ append_assoc (front p) m (47 ∷ r.0))
    ∙ ap (λ b. cond b (Some (m ++ 47 ∷ r.0)) None) (not_one (m ++ 47 ∷ r.0) (has_slash m r.0))

-- what is past a front
past_first : (a c : ℕ) (p q : Bool) (r s : Ordering) → is_le (ordering_then (nat_cmp (byte_rank a) (byte_rank c)) r) ≡ true
    → (a == c && p) ≡ false → (p ≡ false → is_le r ≡ true → q ≡ true) → (nat_lt (byte_rank a) (byte_rank c) || (a == c && q)) ≡ true
past_first a c p q r s e n h = grind (arith, nat_tests)

pub past_front : (f t k : List ℕ) → is_le (path_cmp (f ++ t) k) ≡ true → starts_with eqb k f ≡ false → before_all f k ≡ true
past_front [] t k e n = cc
past_front (a ∷ f) t [] e n = cc
past_front (a ∷ f) t (c ∷ k) e n = past_first a c (starts_with eqb k f) (before_all f k) (path_cmp (f ++ t) k) Less e n (λ m l. past_front f t k l m)

later : (a b c : ℕ) (p q : Bool) (r : Ordering) → (nat_lt (byte_rank a) (byte_rank b) || (a == b && p)) ≡ true
    → ordering_then (nat_cmp (byte_rank b) (byte_rank c)) r ≡ Less → (p ≡ true → r ≡ Less → q ≡ true)
    → (nat_lt (byte_rank a) (byte_rank c) || (a == c && q)) ≡ true
later a b c p q r e l h = grind (arith, nat_tests)

pub past_more : (f k x : List ℕ) → before_all f k ≡ true → path_cmp k x ≡ Less → before_all f x ≡ true
past_more [] k x e l = absurd (false≢true e)
past_more (a ∷ f) [] x e l = absurd (false≢true e)
past_more (a ∷ f) (b ∷ k) [] e l = cc
past_more (a ∷ f) (b ∷ k) (c ∷ x) e l = later a b c (before_all f k) (before_all f x) (path_cmp k x) e l (λ p r. past_more f k x p r)

not_begun : (a c : ℕ) (p q : Bool) → (nat_lt (byte_rank a) (byte_rank c) || (a == c && p)) ≡ true → (p ≡ true → q ≡ false) → (a == c && q) ≡ false
not_begun a c p q e h = grind (arith, nat_tests)

past_is_off : (f x : List ℕ) → before_all f x ≡ true → starts_with eqb x f ≡ false
past_is_off [] x e = absurd (false≢true e)
past_is_off (a ∷ f) [] e = absurd (false≢true e)
past_is_off (a ∷ f) (c ∷ x) e = not_begun a c (before_all f x) (starts_with eqb x f) e (past_is_off f x)

pub none_past : (p x : List ℕ) → before_all (front p) x ≡ true → name_below p x ≡ None
none_past p x e = name_below-off p x (past_is_off (front p) x e)

-- the least child
least : (c : ℕ) (r : Ordering) → is_le r ≡ true → (c == 0) ≡ false → is_slash c ≡ false → is_le (ordering_then (nat_cmp (byte_rank 1) (byte_rank c)) r) ≡ true
least c r e n s = grind (arith, nat_tests)

nil_least : (x : List ℕ) → is_le (path_cmp [] x) ≡ true
nil_least [] = refl
nil_least (c ∷ x) = refl

from_front : (f m : List ℕ) → 0 < length m → list_any is_slash m ≡ false → list_any is_nul (f ++ m) ≡ false → is_le (path_cmp (f ++ 1 ∷ []) (f ++ m)) ≡ true
from_front [] [] h s n = absurd (omega arith)
from_front [] (c ∷ m) h s n = least c (path_cmp [] m) (nil_least m) (or_parts (c == 0) (list_any is_nul m) n).0
    (or_parts (is_slash c) (list_any is_slash m) s).0
from_front (a ∷ f) m h s n = ap is_le (self_equal a (path_cmp (f ++ 1 ∷ []) (f ++ m))) ∙ from_front f m h s (or_parts (a == 0) (list_any is_nul (f ++ m)) n).1

-- no child comes before it
pub child_from : (p x m : List ℕ) → name_below p x ≡ Some m → refusal x ≡ None → is_le (path_cmp (front p ++ 1 ∷ []) x) ≡ true
child_from p x m e v =
    let c = child_is p x m e in let o = one_name_parts m c.1 in
    subst (λ y. is_le (path_cmp (front p ++ 1 ∷ []) y) ≡ true) (sym c.0) (from_front (front p) m o.0 o.1 (ap (list_any is_nul) (sym c.0) ∙ no_nul x v))

-- where it is too long, there is no child
pub none_long : (p x : List ℕ) → 4095 < length (front p ++ 1 ∷ []) → refusal x ≡ None → name_below p x ≡ None
none_long p x l v =
    elim (name_below p x) as (λ o. name_below p x ≡ o → o ≡ None) [
      | None ↦ λ e. refl
      | Some m ↦ λ e. let c = child_is p x m e in let o = one_name_parts m c.1 in absurd (too_long (front p) m x l c.0 o.0 (short x v))
    ] refl
  where
    too_long : (f m x : List ℕ) → 4095 < length (f ++ 1 ∷ []) → x ≡ f ++ m → 0 < length m → length x ≤ 4095 → ⊥
    too_long f m x l e h s = omega (arith, length-append f (1 ∷ []), length-append f m, ap length e)
