-- Once all is divided and in order, it is the grouping of the files.
use Rattle.tree_dup.proofs.Prelude.{◌≡◌, ℕ, zero, suc, ◌+◌, ◌<◌, ◌≤◌, Bool, true, false, not, ◌&&◌, ◌||◌, List, [], ◌∷◌, ◌++◌, length, map, get_or, Option}
use Rattle.tree_dup.proofs.Prelude.{Some, None, IfSome, All, IsPermutation, IsSorted, IsSortedByKey, refl, sym, ap, subst, ◌∙◌, arith, eqb, append-nil}
use Rattle.tree_dup.proofs.Prelude.{count_by, is_lt, get, both_ways, first_so, second_so, pointwise, bytes_decides, list_any, IsStrictlySortedBy, false≢true}
use Rattle.tree_dup.proofs.Prelude.{get_or-map, length-map, All-nil, All-append, All-head, All-tail, sum_by-cons, All-permutation, IsPermutation-map}
use Rattle.tree_dup.proofs.Prelude.{length_permutation, sum_by-IsPermutation, sha256, path_cmp, Asks, Files, content, Entry, ShowsFailure, ShowsChange, Told}
use Rattle.tree_dup.proofs.Prelude.{Grouping, has, is_candidate, is_read, is_missed, is_kept, is_in, are_together, first, first_path, same_bytes, IsByBytes}
use Rattle.tree_dup.proofs.Prelude.{IsGrouping, HaveCauses, AreWhole, times, times_in, joints, joints_in, AreSifted, AreMissed, IsMade, HaveBytes, IsUndivided}
use Rattle.tree_dup.proofs.Prelude.{candidates_in, misses, piles_of, is_not}
use Rattle.tree_dup.proofs.Piled.{one_if, positive, positive_so, positive_back, positive-add, positive-min, any_is, any_counts, counts_any, none_any, have}
use Rattle.tree_dup.proofs.Piled.{times-cons, times-append, times-permutation}
use Rattle.tree_dup.proofs.Parted.{if_told}
use Rattle.tree_dup.proofs.Strict.{strict, stands, stands_once}

-- ---- the candidates of a list

fewer : (p : List ℕ) (test : Entry → Bool) (list : List Entry) → count_by (λ e. pointwise eqb p e.path && test e) list ≤ times p (map (λ e. e.path) list)
fewer p test [] = omega arith
fewer p test (e ∷ list) =
    let rest = fewer p test list in
    omega (
      arith,
      sum_by-cons (λ (e : Entry). one_if (pointwise eqb p e.path && test e)) e list,
      times-cons p e.path (map (λ e. e.path) list),
      less (pointwise eqb p e.path) (test e),
    )
  where
    less : (b c : Bool) → one_if (b && c) ≤ one_if b
    less true true = omega arith
    less true false = omega arith
    less false c = omega arith

candidates_once : (list : List Entry) (p : List ℕ) → IsStrictlySortedBy path_cmp (map (λ e. e.path) list) → candidates_in list list p ≤ 1
candidates_once list p up = omega (arith, fewer p (is_candidate list) list, stands_once (map (λ e. e.path) list) p up)

-- ---- tests

zero_count : {X : Type 0} (p : X → Bool) (xs : List X) → list_any p xs ≡ false → count_by p xs ≡ 0
zero_count p xs e = by (count_by p xs) (sym (any_is p xs) ∙ e)
  where
    by : (n : ℕ) → positive n ≡ false → n ≡ 0
    by zero f = refl
    by (suc n) f = absurd (false≢true (sym f ∙ positive_so (suc n) (omega arith)))

kept_so : (list : List Entry) (found : Grouping) (p : List ℕ) → 0 < candidates_in list list p → misses found p ≡ 0 → is_kept list found p ≡ true
kept_so list found p c m =
    let there : has (is_candidate list) list p ≡ true = counts_any (λ e. pointwise eqb p e.path && is_candidate list e) list c in
    let none : is_missed found p ≡ false = none_any (pointwise eqb p) (found.failed ++ found.changed) (times-append p found.failed found.changed ∙ m) in
    λ i. there i && not (none i)

kept_back : (list : List Entry) (found : Grouping) (p : List ℕ) → is_kept list found p ≡ true → (0 < candidates_in list list p) × (misses found p ≡ 0)
kept_back list found p k =
    let there = first_so (has (is_candidate list) list p) (not (is_missed found p)) k in
    let none = is_not (is_missed found p) (second_so (has (is_candidate list) list p) (not (is_missed found p)) k) in (
      any_counts (λ e. pointwise eqb p e.path && is_candidate list e) list there,
      sym (times-append p found.failed found.changed) ∙ zero_count (pointwise eqb p) (found.failed ++ found.changed) none,
    )

-- ---- groups and piles

together_is : (groups : List Told) (p q : List ℕ) → are_together groups p q ≡ positive (joints_in p q (piles_of groups))
unfolding positive
together_is [] p q = refl
together_is (g ∷ groups) p q =
    (λ i. (any_is (pointwise eqb p) g.paths i && any_is (pointwise eqb q) g.paths i) || together_is groups p q i)
    ∙ (λ i. sym (positive-min (times p g.paths) (times q g.paths)) i || positive (joints_in p q (piles_of groups)))
    ∙ sym (positive-add (joints p q g.paths) (joints_in p q (piles_of groups)))
    ∙ ap positive (sym (sum_by-cons (joints p q) g.paths (piles_of groups)))

times_at : (p : List ℕ) (groups : List Told) (k : ℕ) (d : Told) → k < length groups → times p (get_or groups k d).paths ≤ times_in p (piles_of groups)
times_at p [] k d l = absurd (omega arith)
times_at p (g ∷ groups) zero d l = omega (arith, sum_by-cons (times p) g.paths (piles_of groups))
times_at p (g ∷ groups) (suc k) d l =
    let rest = times_at p groups k d (omega arith) in
    omega (arith, sum_by-cons (times p) g.paths (piles_of groups))

groups_once : (p : List ℕ) (groups : List Told) → count_by (is_in p) groups ≤ times_in p (piles_of groups)
groups_once p [] = omega arith
groups_once p (g ∷ groups) =
    let rest = groups_once p groups in
    omega (arith, sum_by-cons (λ g. one_if (is_in p g)) g groups, sum_by-cons (times p) g.paths (piles_of groups), one (is_in p g) refl)
  where
    one : (b : Bool) → is_in p g ≡ b → one_if b ≤ times p g.paths
    one true e = any_counts (pointwise eqb p) g.paths e
    one false e = omega arith

firsts : (p : List ℕ) (groups : List Told) → All (λ g. 2 ≤ length g.paths) groups → times p (map first_path groups) ≤ times_in p (piles_of groups)
firsts p [] some = omega arith
firsts p (g ∷ groups) some =
    let rest = firsts p groups (All-tail (λ g. 2 ≤ length g.paths) g groups some) in
    omega (
      arith,
      times-cons p (first_path g) (map first_path groups),
      sum_by-cons (times p) g.paths (piles_of groups),
      one g.paths (All-head (λ g. 2 ≤ length g.paths) g groups some),
    )
  where
    one : (paths : List (List ℕ)) → 2 ≤ length paths → one_if (pointwise eqb p (first paths)) ≤ times p paths
    one [] l = absurd (omega arith)
    one (x ∷ paths) l = omega (arith, times-cons p x paths)

sorted_firsts : (groups : List Told) → IsSortedByKey first_path path_cmp groups → IsSorted path_cmp (map first_path groups)
sorted_firsts groups up k d l m =
    let e : Told = record { size = 0; digest = []; paths = [] } in
    let n : length (map first_path groups) ≡ length groups = length-map groups first_path in
    (λ i. is_lt (path_cmp (get_or-map first_path groups (k + 1) e d (omega arith) i) (get_or-map first_path groups k e d (omega arith) i)))
    ∙ up k e l (omega arith)

-- paths of one group have the same bytes
shared : (tree : Files) (groups : List Told) → All (λ g. HaveBytes tree g.digest g.paths) groups → (p q : List ℕ) → 0 < joints_in p q (piles_of groups) →
    content (get tree p) ≡ content (get tree q)
shared tree [] h p q l = absurd (omega arith)
shared tree (g ∷ groups) h p q l = by (joints p q g.paths) refl (shared tree groups (All-tail (λ g. HaveBytes tree g.digest g.paths) g groups h) p q)
  where
    by : (n : ℕ) → joints p q g.paths ≡ n → (0 < joints_in p q (piles_of groups) → content (get tree p) ≡ content (get tree q)) →
        content (get tree p) ≡ content (get tree q)
    by zero e rest = rest (omega (arith, e, sum_by-cons (joints p q) g.paths (piles_of groups)))
    by (suc n) e rest =
        let b = All-head (λ g. HaveBytes tree g.digest g.paths) g groups h in
        have (λ p. content (get tree p) ≡ b.bytes) p g.paths b.same (omega (arith, e))
        ∙ sym (have (λ p. content (get tree p) ≡ b.bytes) q g.paths b.same (omega (arith, e)))

none_left : {X : Type 0} (xs ys : List X) → IsPermutation xs ys → xs ≡ [] → ys ≡ []
none_left xs [] h e = refl
none_left xs (y ∷ ys) h e = absurd (omega (arith, length_permutation xs (y ∷ ys) h, ap length e))

-- ---- all together

-- what is so of all that is divided, whatever its order
record AreDone (tree : Option Files) (list : List Entry) (found : Grouping) : Type 0 where
  missed : AreMissed tree list found
  made : All (IsMade tree list) found.groups
  once : (p : List ℕ) → times_in p (piles_of found.groups) + misses found p ≤ candidates_in list list p
  undivided : IfSome tree (IsUndivided list (misses found) (piles_of found.groups))

-- findings in another order
record IsInOrder (found found' : Grouping) : Type 0 where
  groups : IsPermutation found.groups found'.groups
  failed : IsPermutation found.failed found'.failed
  changed : IsPermutation found.changed found'.changed
  by_first : IsSortedByKey first_path path_cmp found'.groups
  by_failed : IsSorted path_cmp found'.failed
  by_changed : IsSorted path_cmp found'.changed

done : (tree : Option Files) (list : List Entry) (found found' : Grouping) → AreSifted tree list [] found → IsInOrder found found' → AreDone tree list found'
done tree list found found' s o =
    let whole : piles_of found.groups ++ [] ≡ piles_of found.groups = append-nil (piles_of found.groups) in
    let moved : IsPermutation (piles_of found.groups) (piles_of found'.groups) =
    IsPermutation-map (λ (g : Told). g.paths) found.groups found'.groups o.groups in
    let same : (p : List ℕ) → misses found' p ≡ misses found p =
    λ p. omega (arith, times-permutation p found.failed found'.failed o.failed, times-permutation p found.changed found'.changed o.changed) in
    record {
      missed = record {
        failed = All-permutation (λ p. has (is_read list) list p ≡ true) found.failed found'.failed o.failed s.missed.failed;
        changed = All-permutation (λ p. has (is_read list) list p ≡ true) found.changed found'.changed o.changed s.missed.changed;
        unchanged = if_told tree (λ files. found.changed ≡ []) (λ files. found'.changed ≡ [])
            (λ files e. none_left found.changed found'.changed o.changed e) s.missed.unchanged;
      };
      made = All-permutation (IsMade tree list) found.groups found'.groups o.groups s.made;
      once = λ p. omega (
        arith,
        s.once p,
        same p,
        ap (times_in p) whole,
        sum_by-IsPermutation (times p) (piles_of found.groups) (piles_of found'.groups) moved,
      );
      undivided = if_told tree (IsUndivided list (misses found) (piles_of found.groups ++ [])) (IsUndivided list (misses found') (piles_of found'.groups))
          (λ files u p q c d m n ne e.
          let old : 0 < joints_in p q (piles_of found.groups ++ []) = u p q c d (sym (same p) ∙ m) (sym (same q) ∙ n) ne e in
          omega (arith, ap (joints_in p q) whole, sum_by-IsPermutation (joints p q) (piles_of found.groups) (piles_of found'.groups) moved))
          s.undivided;
    }

by_bytes : (tree : Files) (list : List Entry) (found : Grouping) → AreDone (Some tree) list found → IsByBytes list found tree
by_bytes tree list found h = record {
  equal = λ p q k l ne. both_ways (are_together found.groups p q) (same_bytes tree p q)
      (λ e. (bytes_decides (content (get tree p)) (content (get tree q))).1
      (shared tree found.groups (λ j d m. (h.made j d m).told) p q
      (positive_back (joints_in p q (piles_of found.groups)) (sym (together_is found.groups p q) ∙ e))))
      (λ e.
      let k' = kept_back list found p k in
      let l' = kept_back list found q l in
      together_is found.groups p q ∙ positive_so (joints_in p q (piles_of found.groups))
      (h.undivided p q k'.0 l'.0 k'.1 l'.1 ne ((bytes_decides (content (get tree p)) (content (get tree q))).0 e)));
  digests = λ j d m i e l. (h.made j d m).told.digest ∙ ap sha256 (sym ((h.made j d m).told.same i e l));
  unchanged = h.missed.unchanged;
}

pub grouped : (tree : Option Files) (list : List Entry) (found found' : Grouping) → IsStrictlySortedBy path_cmp (map (λ e. e.path) list) →
    AreSifted tree list [] found → IsPermutation found.groups found'.groups → IsPermutation found.failed found'.failed →
    IsPermutation found.changed found'.changed → IsSortedByKey first_path path_cmp found'.groups → IsSorted path_cmp found'.failed →
    IsSorted path_cmp found'.changed → IsGrouping tree list found'
grouped tree list found found' up s g f c bg bf bc = record {
  failed_ascend = strict found'.failed bf (λ p. omega (arith, h.once p, one p));
  changed_ascend = strict found'.changed bc (λ p. omega (arith, h.once p, one p));
  apart = λ k d l. none_any (pointwise eqb (get_or found'.failed k d)) found'.changed
      (let n = stands (get_or found'.failed k d) found'.failed k d l refl in omega (arith, h.once (get_or found'.failed k d), one (get_or found'.failed k d)));
  to_be_read = All-append (λ p. has (is_read list) list p ≡ true) found'.failed found'.changed h.missed.failed h.missed.changed;
  each = λ k d l.
      let m = h.made k d l in
      record {
        some = m.some;
        ascend = strict (get_or found'.groups k d).paths m.sorted (λ p. omega (arith, h.once p, one p, times_at p found'.groups k d l));
        kept = λ j e n.
            let p : List ℕ = get_or (get_or found'.groups k d).paths j e in
            let there = stands p (get_or found'.groups k d).paths j e n refl in
            kept_so list found' p (omega (arith, h.once p, times_at p found'.groups k d l))
            (omega (arith, h.once p, one p, times_at p found'.groups k d l));
        sizes = m.sizes;
      };
  once = λ p. omega (arith, h.once p, one p, groups_once p found'.groups);
  order = strict (map first_path found'.groups) (sorted_firsts found'.groups bg)
      (λ p. omega (arith, h.once p, one p, firsts p found'.groups (λ k d l. (h.made k d l).some)));
  told = by tree h;
}
  where
    h : AreDone tree list found'
    h = done tree list found found' s (record { groups = g; failed = f; changed = c; by_first = bg; by_failed = bf; by_changed = bc })

    one : (p : List ℕ) → candidates_in list list p ≤ 1
    one p = candidates_once list p up

    by : (t : Option Files) → AreDone t list found' → IfSome t (IsByBytes list found')
    by None h = tt
    by (Some t) h = by_bytes t list found' h

-- ---- the answers of the reads

pub causes_none : {S : Type 0} (gives : Asks S) (found : Grouping) → found.groups ≡ [] → found.failed ≡ [] → found.changed ≡ [] → HaveCauses gives found
causes_none gives found g e f = record {
  failed = subst (All (ShowsFailure gives)) (sym e) (All-nil (ShowsFailure gives));
  changed = subst (All (ShowsChange gives)) (sym f) (All-nil (ShowsChange gives));
  whole = subst (All (AreWhole gives)) (sym g) (All-nil (AreWhole gives));
}

pub causes_moved : {S : Type 0} (gives : Asks S) (found found' : Grouping) → IsPermutation found.groups found'.groups →
    IsPermutation found.failed found'.failed →
    IsPermutation found.changed found'.changed → HaveCauses gives found → HaveCauses gives found'
causes_moved gives found found' g f c h = record {
  failed = All-permutation (ShowsFailure gives) found.failed found'.failed f h.failed;
  changed = All-permutation (ShowsChange gives) found.changed found'.changed c h.changed;
  whole = All-permutation (AreWhole gives) found.groups found'.groups g h.whole;
}
