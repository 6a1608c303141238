-- Paths in piles: how often they stand there, and what is so after a pile is divided or left out.
use Rattle.tree_dup.proofs.Prelude.{◌≡◌, zero, suc, ◌+◌, ◌<◌, ◌≤◌, min, true, false, cond, ◌&&◌, ◌||◌, List, [], ◌∷◌, ◌++◌, length, refl, sym, ap, subst, ◌∙◌}
use Rattle.tree_dup.proofs.Prelude.{arith, eqb, All, IsPermutation, count_by, list_any, pointwise, bytes_decides, false≢true, All-head, All-tail, sum_by-cons}
use Rattle.tree_dup.proofs.Prelude.{sum_by-append, sum_by-IsPermutation, times, times_in, joints, joints_in, same}
use Rattle.std.proofs.Common.{ℕ, Bool}

-- ---- tests and numbers

unfoldable pub positive : ℕ → Bool
positive zero = false
positive (suc n) = true

pub positive_so : (n : ℕ) → 0 < n → positive n ≡ true
unfolding positive
positive_so zero h = absurd (omega arith)
positive_so (suc n) h = refl

pub positive_back : (n : ℕ) → positive n ≡ true → 0 < n
unfolding positive
positive_back zero e = absurd (false≢true e)
positive_back (suc n) e = omega arith

pub positive-add : (m n : ℕ) → positive (m + n) ≡ (positive m || positive n)
unfolding positive
positive-add zero n = ap positive (let e : 0 + n ≡ n = omega arith in e)
positive-add (suc m) n = positive_so (suc m + n) (omega arith)

pub positive-min : (m n : ℕ) → positive (min m n) ≡ (positive m && positive n)
unfolding positive
positive-min zero n = ap positive (let e : min 0 n ≡ 0 = omega arith in e)
positive-min (suc m) zero = ap positive (let e : min (suc m) 0 ≡ 0 = omega arith in e)
positive-min (suc m) (suc n) = positive_so (min (suc m) (suc n)) (omega arith)

pub positive-cond : (b : Bool) → positive (cond b 1 0) ≡ b
unfolding positive
positive-cond true = refl
positive-cond false = refl

pub any_is : {X : Type 0} (p : X → Bool) (xs : List X) → list_any p xs ≡ positive (count_by p xs)
unfolding positive
any_is p [] = refl
any_is p (x ∷ xs) =
    (λ i. sym (positive-cond (p x)) i || any_is p xs i) ∙ sym (positive-add (cond (p x) 1 0) (count_by p xs))
    ∙ ap positive (sym (sum_by-cons (λ x. cond (p x) 1 0) x xs))

pub any_counts : {X : Type 0} (p : X → Bool) (xs : List X) → list_any p xs ≡ true → 0 < count_by p xs
any_counts p xs e = positive_back (count_by p xs) (sym (any_is p xs) ∙ e)

pub counts_any : {X : Type 0} (p : X → Bool) (xs : List X) → 0 < count_by p xs → list_any p xs ≡ true
counts_any p xs h = any_is p xs ∙ positive_so (count_by p xs) h

pub none_any : {X : Type 0} (p : X → Bool) (xs : List X) → count_by p xs ≡ 0 → list_any p xs ≡ false
unfolding positive
none_any p xs e = any_is p xs ∙ ap positive e

-- ---- how often a path stands in a pile

pub times-cons : (p x : List ℕ) (xs : List (List ℕ)) → times p (x ∷ xs) ≡ cond (pointwise eqb p x) 1 0 + times p xs
times-cons p x xs = sum_by-cons (λ x. cond (pointwise eqb p x) 1 0) x xs

pub times-append : (p : List ℕ) (xs ys : List (List ℕ)) → times p (xs ++ ys) ≡ times p xs + times p ys
times-append p xs ys = sum_by-append (λ x. cond (pointwise eqb p x) 1 0) xs ys

pub times-permutation : (p : List ℕ) (xs ys : List (List ℕ)) → IsPermutation xs ys → times p ys ≡ times p xs
times-permutation p xs ys h = sum_by-IsPermutation (λ x. cond (pointwise eqb p x) 1 0) xs ys h

abbrev pub one_if : Bool → ℕ
one_if b = cond b 1 0

-- what stands in a pile has what all in it have
pub have : (P : List ℕ → Type 0) (p : List ℕ) (xs : List (List ℕ)) → All P xs → 0 < times p xs → P p
have P p [] h l = absurd (omega arith)
have P p (x ∷ xs) h l = by (pointwise eqb p x) refl (have P p xs (All-tail P x xs h))
  where
    by : (b : Bool) → pointwise eqb p x ≡ b → (0 < times p xs → P p) → P p
    by true e rest = subst P (sym (same p x e)) (All-head P x xs h)
    by false e rest = rest (omega (arith, times-cons p x xs, ap one_if e))

at_most_one : (b c : Bool) → (b ≡ true → c ≡ true → ⊥) → cond b 1 0 + cond c 1 0 ≤ 1
at_most_one true true h = absurd (h refl refl)
at_most_one true false h = omega arith
at_most_one false true h = omega arith
at_most_one false false h = omega arith

-- two paths in a pile are two
pub two_stand : (p q : List ℕ) (xs : List (List ℕ)) → pointwise eqb p q ≡ false → times p xs + times q xs ≤ length xs
two_stand p q [] ne = omega arith
two_stand p q (x ∷ xs) ne =
    let rest = two_stand p q xs ne in
    let one = at_most_one (pointwise eqb p x) (pointwise eqb q x)
    (λ e f. false≢true (sym ne ∙ (bytes_decides p q).1 (same p x e ∙ sym (same q x f)))) in
    omega (arith, times-cons p x xs, times-cons q x xs)

-- ---- piles

pub times_in-split : (p : List ℕ) (before : List (List (List ℕ))) (pile : List (List ℕ)) (after : List (List (List ℕ))) →
    times_in p (before ++ pile ∷ after) ≡ times_in p before + (times p pile + times_in p after)
times_in-split p before pile after =
    sum_by-append (times p) before (pile ∷ after) ∙ ap (λ n. times_in p before + n) (sum_by-cons (times p) pile after)

pub joints_in-split : (p q : List ℕ) (before : List (List (List ℕ))) (pile : List (List ℕ)) (after : List (List (List ℕ))) →
    joints_in p q (before ++ pile ∷ after) ≡ joints_in p q before + (joints p q pile + joints_in p q after)
joints_in-split p q before pile after =
    sum_by-append (joints p q) before (pile ∷ after) ∙ ap (λ n. joints_in p q before + n) (sum_by-cons (joints p q) pile after)

-- of two paths in a pile, both go to one of its two parts
divided_joint : (a b c d m n : ℕ) → a + c ≡ m → b + d ≡ n → (0 < a → 0 < d → ⊥) → (0 < c → 0 < b → ⊥) → 0 < min m n → 0 < min a b + min c d
divided_joint zero zero c d m n e f g h l = omega arith
divided_joint zero (suc b) c d m n e f g h l = absurd (h (omega arith) (omega arith))
divided_joint (suc a) b c zero m n e f g h l = omega arith
divided_joint (suc a) b c (suc d) m n e f g h l = absurd (g (omega arith) (omega arith))

pub divided_once : (p : List ℕ) (before : List (List (List ℕ))) (pile one two : List (List ℕ)) (after : List (List (List ℕ))) (m n c : ℕ) →
    times p one + times p two + n ≤ times p pile + m → times_in p (before ++ pile ∷ after) + m ≤ c → times_in p (before ++ one ∷ (two ∷ after)) + n ≤ c
divided_once p before pile one two after m n c l h =
    omega (arith, times_in-split p before pile after, times_in-split p before one (two ∷ after), sum_by-cons (times p) two after)

pub divided_joints : (p q : List ℕ) (before : List (List (List ℕ))) (pile one two : List (List ℕ)) (after : List (List (List ℕ))) →
    times p one + times p two ≡ times p pile → times q one + times q two ≡ times q pile →
    (0 < times p one → 0 < times q two → ⊥) → (0 < times p two → 0 < times q one → ⊥) →
    0 < joints_in p q (before ++ pile ∷ after) → 0 < joints_in p q (before ++ one ∷ (two ∷ after))
divided_joints p q before pile one two after e f g h l = by (joints p q pile) refl
  where
    new : joints_in p q (before ++ one ∷ (two ∷ after)) ≡ joints_in p q before + (joints p q one + (joints p q two + joints_in p q after))
    new = joints_in-split p q before one (two ∷ after) ∙ ap (λ n. joints_in p q before + (joints p q one + n)) (sum_by-cons (joints p q) two after)

    by : (n : ℕ) → joints p q pile ≡ n → 0 < joints_in p q (before ++ one ∷ (two ∷ after))
    by zero z = omega (arith, joints_in-split p q before pile after, new)
    by (suc n) z =
        let both = divided_joint (times p one) (times q one) (times p two) (times q two) (times p pile) (times q pile) e f g h (omega (arith, z)) in
        omega (arith, new, both)

-- a pile of one path or none joins none
pub left_once : (p : List ℕ) (before : List (List (List ℕ))) (pile : List (List ℕ)) (after : List (List (List ℕ))) (m c : ℕ) →
    times_in p (before ++ pile ∷ after) + m ≤ c → times_in p (before ++ after) + m ≤ c
left_once p before pile after m c h = omega (arith, times_in-split p before pile after, sum_by-append (times p) before after)

pub left_joints : (p q : List ℕ) (before : List (List (List ℕ))) (pile : List (List ℕ)) (after : List (List (List ℕ))) →
    length pile ≤ 1 → pointwise eqb p q ≡ false → 0 < joints_in p q (before ++ pile ∷ after) → 0 < joints_in p q (before ++ after)
left_joints p q before pile after short ne l =
    omega (arith, joints_in-split p q before pile after, sum_by-append (joints p q) before after, two_stand p q pile ne)
