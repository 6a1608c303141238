-- The lowest number of those that pass a test.
use Rattle.checkpoints.proofs.Prelude.{◌≡◌, ℕ, ◌+◌, ◌<◌, Bool, true, false, List, [], ◌∷◌, ◌++◌, length, get_or, refl, ap, ◌∙◌, sym, subst, arith, cond, Option}
use Rattle.checkpoints.proofs.Prelude.{Some, None, min, nat_lt, All, Contains, enumerate_from, false≢true, false_from_ne_true, nat_tests, get_or_append_left}
use Rattle.checkpoints.proofs.Prelude.{get_or_at, length-append, All-push, All-weaker, Contains-append_left, Contains-push, length-enumerate_from}
use Rattle.checkpoints.proofs.Prelude.{get_or-enumerate_from, Numbered, lower_of, lowest_with, IsUpTo, IsLowest}

still_up : (lowest : Option ℕ) (n m : ℕ) → IsUpTo lowest m → IsUpTo (lower_of lowest n) m
still_up None n m h = absurd h
still_up (Some k) n m h = omega (arith, h)

new_up : (lowest : Option ℕ) (n : ℕ) → IsUpTo (lower_of lowest n) n
new_up None n = omega arith
new_up (Some k) n = omega arith

min_left : (m n : ℕ) → nat_lt m n ≡ true → min m n ≡ m
min_left m n t = grind (arith, nat_tests)

min_right : (m n : ℕ) → nat_lt m n ≡ false → min m n ≡ n
min_right m n t = grind (arith, nat_tests)

-- that one with this number passes
abbrev pub Passes : (List ℕ → Bool) → Numbered → ℕ → Type 0
Passes test lefts n = (path : List ℕ) × Contains lefts (n, path) × (test path ≡ true)

one_passes : (test : List ℕ → Bool) (lefts : Numbered) (l : ℕ × List ℕ) → test l.1 ≡ true → Passes test (lefts ++ l ∷ []) l.0
one_passes test lefts l t = (l.1, Contains-push lefts l, t)

still_passes : (test : List ℕ → Bool) (lefts : Numbered) (l : ℕ × List ℕ) (n : ℕ) → Passes test lefts n → Passes test (lefts ++ l ∷ []) n
still_passes test lefts l n p = (p.0, Contains-append_left lefts (l ∷ []) (n, p.0) p.1, p.2)

lower_passes : (test : List ℕ → Bool) (lefts : Numbered) (l : ℕ × List ℕ) (m : ℕ) → test l.1 ≡ true → Passes test lefts m →
    Passes test (lefts ++ l ∷ []) (min m l.0)
lower_passes test lefts l m t p = elim (nat_lt m l.0) as (λ b. nat_lt m l.0 ≡ b → Passes test (lefts ++ l ∷ []) (min m l.0)) [
  | true ↦ λ e. subst (Passes test (lefts ++ l ∷ [])) (sym (min_left m l.0 e)) (still_passes test lefts l m p)
  | false ↦ λ e. subst (Passes test (lefts ++ l ∷ [])) (sym (min_right m l.0 e)) (one_passes test lefts l t)
] refl

taken : (test : List ℕ → Bool) (lefts : Numbered) (l : ℕ × List ℕ) (lowest : Option ℕ) → test l.1 ≡ true → IsLowest test lefts lowest →
    IsLowest test (lefts ++ l ∷ []) (lower_of lowest l.0)
taken test lefts l None t low = record {
  among = one_passes test lefts l t;
  under = All-push (λ q. test q.1 ≡ true → IsUpTo (Some l.0) q.0) lefts l
      (All-weaker (λ q. test q.1 ≡ true → IsUpTo None q.0) (λ q. test q.1 ≡ true → IsUpTo (Some l.0) q.0) (λ q h e. absurd (h e)) lefts low.under)
      (λ e. new_up None l.0);
}
taken test lefts l (Some m) t low = record {
  among = lower_passes test lefts l m t low.among;
  under = All-push (λ q. test q.1 ≡ true → IsUpTo (Some (min m l.0)) q.0) lefts l
      (All-weaker (λ q. test q.1 ≡ true → IsUpTo (Some m) q.0) (λ q. test q.1 ≡ true → IsUpTo (Some (min m l.0)) q.0)
      (λ q h e. still_up (Some m) l.0 q.0 (h e)) lefts low.under)
      (λ e. new_up (Some m) l.0);
}

passed : (test : List ℕ → Bool) (lefts : Numbered) (l : ℕ × List ℕ) (lowest : Option ℕ) → test l.1 ≡ false → IsLowest test lefts lowest →
    IsLowest test (lefts ++ l ∷ []) lowest
passed test lefts l None f low = record {
  among = tt;
  under = All-push (λ q. test q.1 ≡ true → IsUpTo None q.0) lefts l low.under (λ e. absurd (false≢true (sym f ∙ e)));
}
passed test lefts l (Some m) f low = record {
  among = still_passes test lefts l m low.among;
  under = All-push (λ q. test q.1 ≡ true → IsUpTo (Some m) q.0) lefts l low.under (λ e. absurd (false≢true (sym f ∙ e)));
}

-- with one more
pub lowest_push : (test : List ℕ → Bool) (lefts : Numbered) (l : ℕ × List ℕ) (lowest : Option ℕ) → IsLowest test lefts lowest →
    IsLowest test (lefts ++ l ∷ []) (lowest_with (test l.1) lowest l.0)
lowest_push test lefts l lowest low =
    elim (test l.1) as (λ b. test l.1 ≡ b → IsLowest test (lefts ++ l ∷ []) (cond b (lower_of lowest l.0) lowest)) [
      | true ↦ λ t. taken test lefts l lowest t low
      | false ↦ λ f. passed test lefts l lowest f low
    ] refl

-- ---- where the numbers are places

-- of those that pass no number is as low as this
low_at : (test : List ℕ → Bool) (lowest : Option ℕ) (flat : List (List ℕ)) → All (λ l. test l.1 ≡ true → IsUpTo lowest l.0) (enumerate_from 0 flat) →
    (k : ℕ) (d : List ℕ) → k < length flat → test (get_or flat k d) ≡ true → IsUpTo lowest k
low_at test lowest flat u k d h t =
    let at = get_or-enumerate_from 0 flat k (k, d) h in
    let inside : k < length (enumerate_from 0 flat) = omega (arith, h, length-enumerate_from 0 flat) in
    let zero : 0 + k ≡ k = omega arith in
    subst (IsUpTo lowest) (ap (λ (l : ℕ × List ℕ). l.0) at ∙ zero)
    (u k (k, d) inside (ap (λ (l : ℕ × List ℕ). test l.1) at ∙ t))

pub none_passes : (test : List ℕ → Bool) (flat : List (List ℕ)) → All (λ l. test l.1 ≡ true → IsUpTo None l.0) (enumerate_from 0 flat) →
    All (λ q. test q ≡ false) flat
none_passes test flat u k d h = false_from_ne_true (test (get_or flat k d)) (λ t. low_at test None flat u k d h t)

pub before_passes : (test : List ℕ → Bool) (before rest : List (List ℕ)) →
    All (λ l. test l.1 ≡ true → IsUpTo (Some (length before)) l.0) (enumerate_from 0 (before ++ rest)) → All (λ q. test q ≡ false) before
before_passes test before rest u k d h = false_from_ne_true (test (get_or before k d)) (λ t.
    let inside : k < length (before ++ rest) = omega (arith, h, length-append before rest) in
    let low = low_at test (Some (length before)) (before ++ rest) u k d inside (ap test (get_or_append_left before rest d k h) ∙ t) in
    absurd (omega (arith, low, h)))

pub this_passes : (test : List ℕ → Bool) (before : List (List ℕ)) (path : List ℕ) (rest : List (List ℕ)) →
    Passes test (enumerate_from 0 (before ++ path ∷ rest)) (length before) → test path ≡ true
this_passes test before path rest p =
    let flat = before ++ path ∷ rest in
    let n = length before in
    let k = p.1.0 in
    let inside : k < length flat = omega (arith, p.1.1, length-enumerate_from 0 flat) in
    let at = sym p.1.2 ∙ get_or-enumerate_from 0 flat k (n, p.0) inside in
    let number : n ≡ 0 + k = ap (λ (l : ℕ × List ℕ). l.0) at in
    let place : n ≡ k = omega (arith, number) in
    let is = ap (λ (l : ℕ × List ℕ). l.1) at ∙ get_or_at before path rest p.0 k place in
    ap test (sym is) ∙ p.2
