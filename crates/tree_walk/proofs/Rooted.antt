-- What is left of paths in path order, where each that is in the last one kept is dropped, are their roots.
use Rattle.tree_walk.proofs.Prelude.{◌≡◌, ℕ, ◌+◌, Bool, true, false, ◌&&◌, ◌||◌, List, [], ◌∷◌, get_or, refl, ap, ◌∙◌, sym, subst, arith, cond, suc, ◌==◌}
use Rattle.tree_walk.proofs.Prelude.{nat_lt, AllByRecursion, Contains, dedup, dedup_from, IsSorted, IsPermutation, nat_cmp, ordering_then, is_lt}
use Rattle.tree_walk.proofs.Prelude.{ordering_reverse, Ordering, Less, Equal, Greater, false≢true, or_right, nat_tests, IsPermutation-sym, All-permutation}
use Rattle.tree_walk.proofs.Prelude.{sorted_far, ranks_by, recursion_from_All, All-from_recursion, All-contains_itself, path_cmp, byte_rank, front, before_all}
use Rattle.tree_walk.proofs.Prelude.{precedes, precedes-Less, path_cmp_total, path_cmp_same, is_in, is_in_some, IsRoots, all_weaker}
use Rattle.std.specs.List.Sorted.{IsStrictlySortedBy}
use Rattle.tree_walk.proofs.Lined.{Lined}
use Rattle.tree_walk.proofs.Inside.{is_in_is, in_itself, in_trans}
use Rattle.tree_walk.proofs.Covers.{in_line, one_covers, to_apart}

-- ---- what comes before y, with all that is under it, comes before what follows y

still : (a b c : ℕ) (p q : Bool) (r : Ordering) → (nat_lt (byte_rank a) (byte_rank b) || (a == b && p)) ≡ true →
    ordering_then (nat_cmp (byte_rank b) (byte_rank c)) r ≡ Less → (p ≡ true → r ≡ Less → q ≡ true) →
    (nat_lt (byte_rank a) (byte_rank c) || (a == c && q)) ≡ true
still a b c p q r e l h = grind (arith, nat_tests)

pub before_later : (f y z : List ℕ) → before_all f y ≡ true → path_cmp y z ≡ Less → before_all f z ≡ true
before_later [] y z e l = absurd (false≢true e)
before_later (a ∷ f) [] z e l = absurd (false≢true e)
before_later (a ∷ f) (b ∷ y) [] e l = cc
before_later (a ∷ f) (b ∷ y) (c ∷ z) e l = still a b c (before_all f y) (before_all f z) (path_cmp y z) e l (λ p q. before_later f y z p q)

-- y is not before x
abbrev NotBefore : List ℕ → List ℕ → Type 0
NotBefore x y = is_lt (path_cmp y x) ≡ false

precedes_later : (p x y : List ℕ) → precedes p x ≡ true → NotBefore x y → precedes p y ≡ true
precedes_later p x y e n =
    elim (path_cmp x y) as (λ c. path_cmp x y ≡ c → precedes p y ≡ true) [
      | Less ↦ λ l. before_later (front p) x y e l
      | Equal ↦ λ q. ap (precedes p) (sym (path_cmp_same x y q)) ∙ e
      | Greater ↦ λ g. absurd (false≢true (sym n ∙ ap is_lt (path_cmp_total.antisymm y x ∙ ap ordering_reverse g)))
    ] refl

-- ---- paths in path order, each maybe several times

abbrev Rises : List (List ℕ) → Type 0
Rises [] = Unit {0}
Rises (x ∷ xs) = AllByRecursion (NotBefore x) xs × Rises xs

rises : (xs : List (List ℕ)) → IsSorted path_cmp xs → Rises xs
rises [] s = tt
rises (x ∷ xs) s = (
  recursion_from_All (NotBefore x) xs
      (λ k d h. sorted_far (λ a b. is_lt (path_cmp a b)) (ranks_by path_cmp_total (λ y. y)) (x ∷ xs) s 0 (suc k) d (omega arith) (omega (arith, h))),
  rises xs (λ k d g h.
      let place : suc k + 1 ≡ suc (k + 1) = omega arith in
      subst (λ n. is_lt (path_cmp (get_or (x ∷ xs) n d) (get_or xs k d)) ≡ false) place (s (suc k) d (omega (arith, g)) (omega (arith, h)))),
)

-- ---- one is in another

or_mono : (a b c d : Bool) → (a ≡ true → b ≡ true) → (c ≡ true → d ≡ true) → (a || c) ≡ true → (b || d) ≡ true
or_mono true b c d h g e = ap (λ q. q || d) (h refl)
or_mono false true c d h g e = refl
or_mono false false c d h g e = g e

some_trans : (x y : List ℕ) (ps : List (List ℕ)) → is_in x y ≡ true → is_in_some ps y ≡ true → is_in_some ps x ≡ true
some_trans x y [] e h = h
some_trans x y (p ∷ ps) e h = or_mono (is_in y p) (is_in x p) (is_in_some ps y) (is_in_some ps x) (in_trans x y p e) (some_trans x y ps e) h

-- ---- what is kept behind k

all_kept : (P : List ℕ → Type 0) (k : List ℕ) (xs : List (List ℕ)) → P k → AllByRecursion P xs → AllByRecursion P (dedup_from is_in k xs)
all_kept P k [] h g = (h, tt)
all_kept P k (x ∷ xs) h g =
    elim (is_in x k) as (λ b. AllByRecursion P (cond b (dedup_from is_in k xs) (k ∷ dedup_from is_in x xs))) [
      | true ↦ all_kept P k xs h g.1
      | false ↦ (h, all_kept P x xs g.0 g.1)
    ]

-- of two paths the later one is behind all that is under the earlier one, or is in it
behind : (k x : List ℕ) → NotBefore k x → is_in x k ≡ false → precedes k x ≡ true
behind k x n f =
    elim (path_cmp k x) as (λ c. path_cmp k x ≡ c → precedes k x ≡ true) [
      | Less ↦ λ l. in_line k x l (sym (is_in_is x k) ∙ f)
      | Equal ↦ λ q. absurd (false≢true (sym f ∙ ap (λ y. is_in y k) (sym (path_cmp_same k x q)) ∙ in_itself k))
      | Greater ↦ λ g. absurd (false≢true (sym n ∙ ap is_lt (path_cmp_total.antisymm x k ∙ ap ordering_reverse g)))
    ] refl

kept_lined : (k : List ℕ) (xs : List (List ℕ)) → Rises (k ∷ xs) → Lined (dedup_from is_in k xs)
kept_lined k [] r = (tt, tt)
kept_lined k (x ∷ xs) r =
    elim (is_in x k) as (λ b. is_in x k ≡ b → Lined (cond b (dedup_from is_in k xs) (k ∷ dedup_from is_in x xs))) [
      | true ↦ λ t. kept_lined k xs (r.0.1, r.1.1)
      | false ↦ λ f.
          let here = behind k x r.0.0 f in
          let later = all_weaker (NotBefore x) (λ y. precedes k y ≡ true) (λ y n. precedes_later k x y here n) xs r.1.0 in
          (all_kept (λ y. precedes k y ≡ true) x xs here later, kept_lined x xs r.1)
    ] refl

abbrev InSome : List (List ℕ) → List ℕ → Type 0
InSome ps q = is_in_some ps q ≡ true

kept_covers : (k : List ℕ) (xs : List (List ℕ)) → AllByRecursion (InSome (dedup_from is_in k xs)) (k ∷ xs)
kept_covers k [] = (ap (λ b. b || false) (in_itself k), tt)
kept_covers k (x ∷ xs) =
    elim (is_in x k) as (λ b. is_in x k ≡ b → AllByRecursion (InSome (cond b (dedup_from is_in k xs) (k ∷ dedup_from is_in x xs))) (k ∷ x ∷ xs)) [
      | true ↦ λ t. let rest = kept_covers k xs in (rest.0, (some_trans x k (dedup_from is_in k xs) t rest.0, rest.1))
      | false ↦ λ f.
          let roots = dedup_from is_in x xs in
          let rest = all_weaker (InSome roots) (InSome (k ∷ roots)) (λ q h. or_right (is_in q k) (is_in_some roots q) h) (x ∷ xs) (kept_covers x xs) in
          (ap (λ b. b || is_in_some roots k) (in_itself k), rest)
    ] refl

-- ---- all

all_lined : (xs : List (List ℕ)) → Rises xs → Lined (dedup is_in xs)
all_lined [] r = tt
all_lined (x ∷ xs) r = kept_lined x xs r

all_among : (P : List ℕ → Type 0) (xs : List (List ℕ)) → AllByRecursion P xs → AllByRecursion P (dedup is_in xs)
all_among P [] h = tt
all_among P (x ∷ xs) h = all_kept P x xs h.0 h.1

all_covered : (xs : List (List ℕ)) → AllByRecursion (InSome (dedup is_in xs)) xs
all_covered [] = tt
all_covered (x ∷ xs) = kept_covers x xs

ascends : (xs : List (List ℕ)) → Lined xs → IsStrictlySortedBy path_cmp xs
unfolding IsStrictlySortedBy
ascends [] h = tt
ascends (x ∷ xs) h = (all_weaker (λ y. precedes x y ≡ true) (λ y. path_cmp x y ≡ Less) (λ y e. precedes-Less x y e) xs h.0, ascends xs h.1)

pub rooted : (given sorted roots : List (List ℕ)) → IsPermutation given sorted → IsSorted path_cmp sorted → roots ≡ dedup is_in sorted → IsRoots given roots
rooted given sorted roots p s e =
    let kept = dedup is_in sorted in
    let l = all_lined sorted (rises sorted s) in
    let given_all = recursion_from_All (Contains given) sorted (All-permutation (Contains given) given sorted p (All-contains_itself given)) in
    let covered = All-from_recursion (InSome kept) sorted (all_covered sorted) in
    subst (IsRoots given) (sym e)
    (record {
      among = All-from_recursion (Contains given) kept (all_among (Contains given) sorted given_all);
      ascend = ascends kept l;
      apart = to_apart kept (λ x. one_covers x kept l);
      cover = All-permutation (InSome kept) sorted given (IsPermutation-sym given sorted p) covered;
    })
