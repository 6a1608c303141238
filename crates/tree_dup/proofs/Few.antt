-- Groups have no more paths than the list that they are of: each path stands in one group at most, and once there.
use Rattle.tree_dup.proofs.Prelude.{◌≡◌, ℕ, zero, suc, ◌<◌, ◌≤◌, Bool, true, false, ◌&&◌, ◌||◌, List, [], ◌∷◌, length, map, refl, sym, ◌∙◌, ap, arith, eqb, All}
use Rattle.tree_dup.proofs.Prelude.{count_by, Option, AllByRecursion, flat_map, list_any, sum_by, IsStrictlySortedBy, pointwise, false≢true, nat_list_eq_equiv}
use Rattle.tree_dup.proofs.Prelude.{length-map, flat_map-cons, length-flat_map, recursion_from_All, sum_by-cons, length-le_from_is_member, path_cmp, Files}
use Rattle.tree_dup.proofs.Prelude.{Entry, IsGrouping, has, is_candidate, is_in, times, Told, Grouping, at_itself}
use Rattle.std.specs.List.{IsDistinct}
use Rattle.tree_dup.proofs.Piled.{have, any_counts, counts_any, one_if, times-append, times-cons}
use Rattle.tree_dup.proofs.Strict.{stands_once}

abbrev Ascends : Told → Type 0
Ascends g = IsStrictlySortedBy path_cmp g.paths

-- all paths of some groups
abbrev paths_of : List Told → List (List ℕ)
paths_of groups = flat_map (λ g. g.paths) groups

none_of : (n m : ℕ) → (0 < n → ⊥) → m ≡ n → m ≤ 0
none_of zero m h e = omega arith
none_of (suc n) m h e = absurd (h (omega arith))

one_at_most : (p : List ℕ) (g : Told) → Ascends g → times p g.paths ≤ one_if (is_in p g)
one_at_most p g up = by (is_in p g) refl
  where
    by : (b : Bool) → is_in p g ≡ b → times p g.paths ≤ one_if b
    by true e = stands_once g.paths p up
    by false e = none_of (times p g.paths) (times p g.paths) (λ l. false≢true (sym e ∙ counts_any (pointwise eqb p) g.paths l)) refl

once : (p : List ℕ) (groups : List Told) → AllByRecursion Ascends groups → times p (paths_of groups) ≤ count_by (is_in p) groups
once p [] h = omega arith
once p (g ∷ groups) h =
    let rest = once p groups h.1 in
    let first = one_at_most p g h.0 in
    omega (
      arith,
      ap (times p) (flat_map-cons (λ g. g.paths) g groups),
      times-append p g.paths (paths_of groups),
      sum_by-cons (λ g. one_if (is_in p g)) g groups,
    )

others : (x : List ℕ) (xs : List (List ℕ)) → times x xs ≡ 0 → AllByRecursion (λ y. pointwise eqb x y ≡ false) xs
others x [] none = tt
others x (y ∷ ys) none = by (pointwise eqb x y) refl (others x ys)
  where
    by : (b : Bool) → pointwise eqb x y ≡ b → (times x ys ≡ 0 → AllByRecursion (λ y. pointwise eqb x y ≡ false) ys) →
        (b ≡ false) × AllByRecursion (λ y. pointwise eqb x y ≡ false) ys
    by true e more = absurd (omega (arith, none, times-cons x y ys, ap one_if e))
    by false e more = (refl, more (omega (arith, none, times-cons x y ys, ap one_if e)))

distinct : (xs : List (List ℕ)) → ((p : List ℕ) → times p xs ≤ 1) → IsDistinct (pointwise eqb) xs
unfolding IsDistinct
distinct [] one = tt
distinct (x ∷ xs) one =
    let o = one x in (
      others x xs (omega (arith, times-cons x x xs, ap one_if (at_itself x))),
      distinct xs (λ p. let o = one p in omega (arith, times-cons p x xs)),
    )

abbrev Stands : List (List ℕ) → List ℕ → Type 0
Stands paths p = list_any (pointwise eqb p) paths ≡ true

-- each path of each group stands among these
stand : (groups : List Told) (paths : List (List ℕ)) → AllByRecursion (λ g. All (Stands paths) g.paths) groups →
    (p : List ℕ) → 0 < times p (paths_of groups) → Stands paths p
stand [] paths h p l = absurd (omega arith)
stand (g ∷ groups) paths h p l = by (times p g.paths) refl (stand groups paths h.1 p)
  where
    by : (n : ℕ) → times p g.paths ≡ n → (0 < times p (paths_of groups) → Stands paths p) → Stands paths p
    by zero e more =
        more (omega (arith, e, ap (times p) (flat_map-cons (λ g. g.paths) g groups), times-append p g.paths (paths_of groups)))
    by (suc n) e more = have (Stands paths) p g.paths h.0 (omega (arith, e))

once_at_most : (p : List ℕ) (groups : List Told) → All Ascends groups → count_by (is_in p) groups ≤ 1 → times p (paths_of groups) ≤ 1
once_at_most p groups up one = let so = once p groups (recursion_from_All Ascends groups up) in omega arith

few : (groups : List Told) (paths : List (List ℕ)) → All Ascends groups → ((p : List ℕ) → count_by (is_in p) groups ≤ 1) →
    All (λ g. All (Stands paths) g.paths) groups → sum_by (λ g. length g.paths) groups ≤ length paths
few groups paths up one h =
    let all = paths_of groups in
    let there = recursion_from_All (λ g. All (Stands paths) g.paths) groups h in
    let fits = length-le_from_is_member nat_list_eq_equiv all paths (distinct all (λ p. once_at_most p groups up (one p)))
    (λ p e. stand groups paths there p (any_counts (pointwise eqb p) all e)) in
    omega (arith, length-flat_map (λ g. g.paths) groups)

-- ---- of a grouping

or_so : (a b c d : Bool) → ((a && c) || b) ≡ true → (b ≡ true → d ≡ true) → (a || d) ≡ true
or_so true b c d e h = refl
or_so false b c d e h = h e

path_stands : (test : Entry → Bool) (list : List Entry) (p : List ℕ) → has test list p ≡ true → Stands (map (λ e. e.path) list) p
path_stands test [] p h = h
path_stands test (e ∷ list) p h =
    or_so (pointwise eqb p e.path) (has test list p) (test e) (list_any (pointwise eqb p) (map (λ e. e.path) list)) h (path_stands test list p)

first_so : (a b : Bool) → (a && b) ≡ true → a ≡ true
first_so true b e = refl
first_so false b e = e

-- the groups of a list have at most as many files as it has entries
pub grouping_is_few : (tree : Option Files) (list : List Entry) (found : Grouping) → IsGrouping tree list found →
    sum_by (λ g. length g.paths) found.groups ≤ length list
grouping_is_few tree list found is =
    let fits = few found.groups (map (λ e. e.path) list) (λ k d l. (is.each k d l).ascend) is.once
    (λ k d l. λ j p m. path_stands (is_candidate list) list _ (first_so (has (is_candidate list) list _) _ ((is.each k d l).kept j p m))) in
    omega (arith, length-map list (λ e. e.path))
