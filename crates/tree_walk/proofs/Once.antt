-- Each path is handled once.
use Rattle.tree_walk.proofs.Prelude.{◌≡◌, ℕ, ◌+◌, ◌<◌, ◌≤◌, true, false, List, [], ◌∷◌, map, length, refl, ap, ◌∙◌, sym, arith, cond, get_or, AllByRecursion}
use Rattle.tree_walk.proofs.Prelude.{sum_by, sum_by-cons, sum_by_more, sum_by_more_le, sorted_from_all_adjacent, get_or-map, length-map, IsPermutation}
use Rattle.tree_walk.proofs.Prelude.{IsSortedByKey, sum_by-IsPermutation, recursion_from_All, bytes_decides, is_lt, ordering_reverse, false≢true, Less, Equal}
use Rattle.tree_walk.proofs.Prelude.{Greater, path_cmp, path_cmp_total, path_cmp_same, is_name, some_bytes, Entry, handled, pushed, Balanced, Held, IsPush}
use Rattle.tree_walk.proofs.Prelude.{log_of, entries_of, is_in_some, Apart, all_weaker, sum_by-map}
use Rattle.std.specs.Bool.{IsTrue}
use Rattle.std.specs.List.Sorted.{IsStrictlySortedBy}
use Rattle.tree_walk.proofs.Covers.{covers, one, covers_falls, from_apart, some_covers}
use Rattle.tree_walk.proofs.Names.{lined_names}

lengths : (names : List (List ℕ)) → AllByRecursion (λ name. IsTrue (is_name name)) names → AllByRecursion (λ n. 0 < length n) names
lengths [] h = tt
lengths (n ∷ names) h = (some_bytes n h.0, lengths names h.1)

pub falls : (x : List ℕ) (d : Held) → IsPush d → one x d.0.path + sum_by (covers x) d.1 ≤ covers x d.0.path
falls x d p =
    let valid = recursion_from_All (λ name. IsTrue (is_name name)) p.names p.are.valid in
    omega (arith, ap (sum_by (covers x)) p.is, covers_falls x d.0.path p.names (lengths p.names valid) (lined_names d.0.path p.names valid p.are.ascend))

-- how often x was handled, and what was pushed that covers it, is no more than what was handled that covers it
all_fall : (x : List ℕ) (ds : List Held) → AllByRecursion IsPush ds →
    sum_by (λ d. one x d.0.path) ds + pushed (covers x) (log_of ds) ≤ handled (covers x) (log_of ds)
all_fall x [] h = omega arith
all_fall x (d ∷ ds) h =
    omega (
      arith,
      falls x d h.0,
      all_fall x ds h.1,
      sum_by-cons (λ (d : Held). one x d.0.path) d ds,
      sum_by-cons (λ (y : List ℕ × List (List ℕ)). covers x y.0) (d.0.path, d.1) (log_of ds),
      sum_by-cons (λ (y : List ℕ × List (List ℕ)). sum_by (covers x) y.1) (d.0.path, d.1) (log_of ds),
    )

-- what was handled is covered by the starts, as often, and then no path that is left covers it
pub covered : (x : List ℕ) (ds : List Held) (left starts : List (List ℕ)) → AllByRecursion IsPush ds → Balanced (log_of ds) left starts →
    sum_by (λ d. one x d.0.path) ds + sum_by (covers x) left ≤ sum_by (covers x) starts
covered x ds left starts h b = omega (arith, all_fall x ds h, b.weighs (covers x))

-- ---- a sorted list with each path once ascends strictly

pub one-same : (x y : List ℕ) → x ≡ y → one x y ≡ 1
one-same x y e = ap (λ b. cond b 1 0) ((bytes_decides x y).1 e)

not_less : (x y : List ℕ) → is_lt (path_cmp y x) ≡ false → one x y ≡ 0 → path_cmp x y ≡ Less
not_less x y h o = elim (path_cmp x y) as (λ c. path_cmp x y ≡ c → path_cmp x y ≡ Less) [
  | Less ↦ λ e. e
  | Equal ↦ λ e. let bad : one x y ≡ 1 = one-same x y (path_cmp_same x y e) in absurd (omega (arith, bad, o))
  | Greater ↦ λ e. absurd (false≢true (sym h ∙ ap is_lt (path_cmp_total.antisymm y x ∙ ap ordering_reverse e)))
] refl

two_places : (x : List ℕ) (es : List Entry) (k : ℕ) (d : Entry) → k + 1 < length es →
    one x (get_or es k d).path + one x (get_or es (k + 1) d).path ≤ sum_by (λ e. one x e.path) es
two_places x es k d h =
    omega (arith, sum_by_more_le (λ (e : Entry). one x e.path) es (k + 1) d h, sum_by_more (λ (e : Entry). one x e.path) es k d (omega arith))

pub rises : (es : List Entry) → IsSortedByKey (λ e. e.path) path_cmp es → ((x : List ℕ) → sum_by (λ e. one x e.path) es ≤ 1) →
    IsStrictlySortedBy path_cmp (map (λ e. e.path) es)
unfolding IsStrictlySortedBy
rises [] s o = tt
rises (e ∷ es) s o = sorted_from_all_adjacent path_cmp_total (map (λ (e : Entry). e.path) (e ∷ es)) e.path (λ k h.
    let n : k + 1 < length (e ∷ es) = omega (arith, h, length-map (e ∷ es) (λ (e : Entry). e.path)) in
    let x = (get_or (e ∷ es) k e).path in
    let y = (get_or (e ∷ es) (k + 1) e).path in
    let self : one x x ≡ 1 = one-same x x refl in
    let other : one x y ≡ 0 = omega (arith, two_places x (e ∷ es) k e n, o x, self) in
    let less : path_cmp x y ≡ Less = not_less x y (s k e (omega arith) n) other in
    (λ i. path_cmp (get_or-map (λ (e : Entry). e.path) (e ∷ es) k e i) (get_or-map (λ (e : Entry). e.path) (e ∷ es) (k + 1) e i)) ∙ less)

-- what was handled from the starts on, which are apart, is balanced over what is left; what was pushed are children; and the list is what
-- was handled, put in path order
pub record IsGathered (ds : List Held) (list : List Entry) (left starts : List (List ℕ)) : Type 0 where
  pub pushes : AllByRecursion IsPush ds
  pub apart : Apart starts
  pub balance : Balanced (log_of ds) left starts
  pub moves : IsPermutation (entries_of ds) list
  pub sorted : IsSortedByKey (λ e. e.path) path_cmp list

-- how often a path stands in the list, it was handled
pub as_often : (k : Entry → ℕ) (ds : List Held) (list : List Entry) → IsPermutation (entries_of ds) list → sum_by k list ≡ sum_by (λ d. k d.0) ds
as_often k ds list p = sum_by-IsPermutation k (entries_of ds) list p ∙ sum_by-map k (λ (d : Held). d.0) ds

-- so it ascends strictly
pub list_rises : (ds : List Held) (list : List Entry) (left starts : List (List ℕ)) → IsGathered ds list left starts →
    IsStrictlySortedBy path_cmp (map (λ e. e.path) list)
list_rises ds list left starts h =
    rises list h.sorted
    (λ x. omega (arith, covered x ds left starts h.pushes h.balance, from_apart starts h.apart x, as_often (λ e. one x e.path) ds list h.moves))

-- ---- each path is a start or under one

pub each_here : (es : List Entry) → AllByRecursion (λ e. 1 ≤ sum_by (λ f. one e.path f.path) es) es
each_here [] = tt
each_here (e ∷ es) =
    let self : one e.path e.path ≡ 1 = one-same e.path e.path refl in (
      omega (arith, sum_by-cons (λ (f : Entry). one e.path f.path) e es, self),
      all_weaker (λ (d : Entry). 1 ≤ sum_by (λ f. one d.path f.path) es) (λ (d : Entry). 1 ≤ sum_by (λ f. one d.path f.path) (e ∷ es))
          (λ d h. omega (arith, h, sum_by-cons (λ (f : Entry). one d.path f.path) e es)) es (each_here es),
    )

pub list_within : (ds : List Held) (list : List Entry) (left starts : List (List ℕ)) → IsGathered ds list left starts →
    AllByRecursion (λ e. is_in_some starts e.path ≡ true) list
list_within ds list left starts h =
    all_weaker (λ (e : Entry). 1 ≤ sum_by (λ f. one e.path f.path) list) (λ (e : Entry). is_in_some starts e.path ≡ true)
    (λ e n. some_covers e.path starts
    (omega (arith, n, covered e.path ds left starts h.pushes h.balance, as_often (λ f. one e.path f.path) ds list h.moves)))
    list (each_here list)
