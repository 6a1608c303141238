-- How many left strings in path order a left string is equal to or under.
use Rattle.checkpoints.proofs.Prelude.{◌≡◌, ℕ, ◌+◌, ◌<◌, Bool, true, false, ◌||◌, List, [], ◌∷◌, ◌++◌, length, get_or, suc, refl, ap, ◌∙◌, sym, subst, arith}
use Rattle.checkpoints.proofs.Prelude.{cond, eqb, Option, nat_lt, AllByRecursion, list_any, count_by, IsSortedByKey, is_lt, pointwise, bytes_decides}
use Rattle.checkpoints.proofs.Prelude.{false≢true, nat_tests, recursion_from_All, sorted_far, ranks_by, sum_by-cons, sum_by-append, path_cmp, path_cmp_total}
use Rattle.checkpoints.proofs.Prelude.{is_in, in_itself, all_map, Behind, AllBehind, covered, IsTop, starts_at, Numbered, paths_in}
use Rattle.checkpoints.proofs.Tops.{behind_in, same_place}
use Rattle.checkpoints.proofs.Clashing.{or_first}

-- ---- paths in path order, each maybe several times

abbrev pub Rises : List (List ℕ) → Type 0
Rises [] = Unit {0}
Rises (x ∷ xs) = AllByRecursion (Behind x) xs × Rises xs

pub rises : (lefts : Numbered) → IsSortedByKey (λ l. l.1) path_cmp lefts → Rises (paths_in lefts)
rises [] s = tt
rises (l ∷ ls) s = (
  all_map (Behind l.1) (λ (q : ℕ × List ℕ). q.1) ls (recursion_from_All (λ q. Behind l.1 q.1) ls
      (λ k d h. sorted_far (λ a b. is_lt (path_cmp a.1 b.1)) (ranks_by path_cmp_total (λ (q : ℕ × List ℕ). q.1)) (l ∷ ls) s 0 (suc k) d (omega arith)
      (omega (arith, h)))),
  rises ls (λ k d g h.
      let place : suc k + 1 ≡ suc (k + 1) = omega arith in
      subst (λ n. is_lt (path_cmp (get_or (l ∷ ls) n d).1 (get_or ls k d).1) ≡ false) place (s (suc k) d (omega (arith, g)) (omega (arith, h)))),
)

pub rises_before : (before : List (List ℕ)) (x : List ℕ) (behind : List (List ℕ)) → Rises (before ++ x ∷ behind) → AllBehind before x
rises_before [] x behind r = tt
rises_before (y ∷ before) x behind r = (here before r.0, rises_before before x behind r.1)
  where
    here : (ys : List (List ℕ)) → AllByRecursion (Behind y) (ys ++ x ∷ behind) → Behind y x
    here [] h = h.0
    here (z ∷ ys) h = here ys h.1

pub rises_behind : (before : List (List ℕ)) (xs : List (List ℕ)) → Rises (before ++ xs) → Rises xs
rises_behind [] xs r = r
rises_behind (y ∷ before) xs r = rises_behind before xs r.1

-- ---- those that stand behind a path

in_is_same : (x y : List ℕ) → 0 < length x → Behind x y → is_in x y ≡ pointwise eqb y x
in_is_same x y some n =
    elim (pointwise eqb y x) as (λ b. pointwise eqb y x ≡ b → is_in x y ≡ b) [
      | true ↦ λ t. ap (is_in x) ((bytes_decides y x).0 t) ∙ in_itself x
      | false ↦ λ f. elim (is_in x y) as (λ b. is_in x y ≡ b → b ≡ false) [
        | true ↦ λ t. absurd (false≢true (sym f ∙ (bytes_decides y x).1 (sym (same_place x y n (behind_in x y some t)))))
        | false ↦ λ g. refl
      ] refl
    ] refl

-- one of those that come later is above x only where the first is
any_later : (x y : List ℕ) (zs : List (List ℕ)) → 0 < length x → Behind x y → AllByRecursion (Behind x) zs → AllByRecursion (Behind y) zs →
    list_any (is_in x) zs ≡ true → is_in x y ≡ true
any_later x y [] some n h g t = absurd (false≢true t)
any_later x y (z ∷ zs) some n h g t =
    elim (is_in x z) as (λ b. is_in x z ≡ b → (b || list_any (is_in x) zs) ≡ true → is_in x y ≡ true) [
      | true ↦ λ e t.
          let above = same_place x z h.0 (behind_in x z some e) in
          let same = same_place x y n (subst (Behind y) (sym above) g.0) in
          ap (is_in x) (sym same) ∙ in_itself x
      | false ↦ λ e t. any_later x y zs some n h.1 g.1 t
    ] refl t

any_behind : (x : List ℕ) (behind : List (List ℕ)) → 0 < length x → AllByRecursion (Behind x) behind → Rises behind →
    list_any (is_in x) behind ≡ starts_at x behind
any_behind x [] some h r = refl
any_behind x (y ∷ ys) some h r =
    or_first (is_in x y) (list_any (is_in x) ys) (any_later x y ys some h.0 h.1 r.0) ∙ in_is_same x y some h.0

-- ---- the count

any_count : (f : List ℕ → Bool) (xs : List (List ℕ)) → list_any f xs ≡ nat_lt 0 (count_by f xs)
any_count f [] = refl
any_count f (x ∷ xs) =
    elim (f x) as (λ b. (b || list_any f xs) ≡ nat_lt 0 (cond b 1 0 + count_by f xs)) [
      | true ↦ some (count_by f xs)
      | false ↦ any_count f xs ∙ none (count_by f xs)
    ] ∙ ap (nat_lt 0) (sym (sum_by-cons (λ x. cond (f x) 1 0) x xs))
  where
    some : (n : ℕ) → true ≡ nat_lt 0 (1 + n)
    some n = grind (arith, nat_tests)

    none : (n : ℕ) → nat_lt 0 n ≡ nat_lt 0 (0 + n)
    none n = grind (arith, nat_tests)

two : (a b : ℕ) → nat_lt 1 (a + (1 + b)) ≡ (nat_lt 0 a || nat_lt 0 b)
two a b = grind (arith, nat_tests)

count_parts : (f : List ℕ → Bool) (before : List (List ℕ)) (x : List ℕ) (behind : List (List ℕ)) → f x ≡ true →
    count_by f (before ++ x ∷ behind) ≡ count_by f before + (1 + count_by f behind)
count_parts f before x behind t =
    sum_by-append (λ y. cond (f y) 1 0) before (x ∷ behind)
    ∙ ap (λ n. count_by f before + n) (sum_by-cons (λ y. cond (f y) 1 0) x behind ∙ ap (λ b. cond b 1 0 + count_by f behind) t)

-- where left strings stand in path order, two or more are at or above one of them where the top of those before covers it or the next is equal to it
pub again_is : (before : List (List ℕ)) (x : List ℕ) (behind : List (List ℕ)) (top : Option (List ℕ)) → Rises (before ++ x ∷ behind) → IsTop before top →
    0 < length x → (covered top x || starts_at x behind) ≡ nat_lt 1 (count_by (is_in x) (before ++ x ∷ behind))
again_is before x behind top r t some =
    let here = rises_behind before (x ∷ behind) r in
    let above = sym (any_count (is_in x) before) ∙ t.covers x (rises_before before x behind r) in
    let same = sym (any_count (is_in x) behind) ∙ any_behind x behind some here.0 here.1 in
    sym (ap (nat_lt 1) (count_parts (is_in x) before x behind (in_itself x)) ∙ two (count_by (is_in x) before) (count_by (is_in x) behind)
    ∙ (λ i. above i || same i))
