-- Searches through rows and paths that ascend.
use Rattle.tree_sync.proofs.Prelude.{◌≡◌, ℕ, ◌+◌, ◌<◌, ◌≤◌, zero, suc, Bool, true, false, cond, ◌||◌, List, [], ◌∷◌, length, take, drop, get_or, refl, ap, Some}
use Rattle.tree_sync.proofs.Prelude.{None, sym, ◌∙◌, subst, arith, add-one, All, AllByRecursion, list_any, slice_get, is_eq, ordering_reverse, pointwise}
use Rattle.tree_sync.proofs.Prelude.{bytes_decides, Ordering, Less, Equal, Greater, drop-cons, take-suc, false≢true, false_from_ne_true, or_from, or_right}
use Rattle.tree_sync.proofs.Prelude.{drop_all, get_or-map, length-map, recursion_from_All, All-push, path_cmp, is_under, is_within, IsPreorder}
use Rattle.tree_sync.proofs.Prelude.{UnderIsContiguous, refusal, path_cmp_total, path_cmp_ties, path_cmp_same, Row, IsPassed, at_place, IsBehind, IsCleared}
use Rattle.tree_sync.proofs.Prelude.{row_paths, row_at}
use Rattle.std.specs.Prelude.{nat_eq}
use Rattle.std.specs.List.Sorted.{IsStrictlySortedBy}

abbrev same : List ℕ → List ℕ → Bool
same = pointwise nat_eq

-- paths that do not tie are not the same
pub other : (p q : List ℕ) (c : Ordering) → path_cmp q p ≡ c → is_eq c ≡ false → same q p ≡ false
other p q c e not_eq = path_cmp_ties q p ∙ ap is_eq e ∙ not_eq

pub reversed : (p q : List ℕ) → path_cmp p q ≡ Less → path_cmp q p ≡ Greater
reversed p q e = path_cmp_total.antisymm q p ∙ ap ordering_reverse e

pub lowered : (p q : List ℕ) → path_cmp p q ≡ Greater → path_cmp q p ≡ Less
lowered p q e = path_cmp_total.antisymm q p ∙ ap ordering_reverse e

-- ---- rows

-- the rows that come before a path have another one
passed_find : (rows : List Row) (at : ℕ) (q : List ℕ) → AllByRecursion (λ p. path_cmp p q ≡ Less) (take at (row_paths rows)) →
    row_at rows q ≡ row_at (drop at rows) q
passed_find rows zero q h = refl
passed_find [] (suc at) q h = refl
passed_find (row ∷ rows) (suc at) q h =
    (λ i. cond (other q row.path Less h.0 refl i) (Some row) (row_at rows q)) ∙ passed_find rows at q h.1

found_at : (rows : List Row) (at : ℕ) (q : List ℕ) → IsPassed (row_paths rows) at q → row_at rows q ≡ row_at (drop at rows) q
found_at rows at q h = passed_find rows at q (recursion_from_All (λ p. path_cmp p q ≡ Less) (take at (row_paths rows)) h.before)

here : (rows : List Row) (at : ℕ) (row : Row) → slice_get rows at ≡ Some row → drop at rows ≡ row ∷ drop (suc at) rows
here rows at row is = let w = at_place rows at row is in drop-cons rows at row w.0 ∙ ap (λ r. r ∷ drop (suc at) rows) w.1

none_behind : (q : List ℕ) (rows : List Row) → AllByRecursion (λ p. path_cmp q p ≡ Less) (row_paths rows) → row_at rows q ≡ None
none_behind q [] h = refl
none_behind q (row ∷ rows) h =
    (λ i. cond (other q row.path Greater (reversed q row.path h.0) refl i) (Some row) (row_at rows q)) ∙ none_behind q rows h.1

all_after : (q p : List ℕ) (paths : List (List ℕ)) → path_cmp q p ≡ Less → AllByRecursion (λ x. path_cmp p x ≡ Less) paths →
    AllByRecursion (λ x. path_cmp q x ≡ Less) paths
all_after q p [] e h = tt
all_after q p (x ∷ paths) e h = (path_cmp_total.trans q p x e h.0, all_after q p paths e h.1)

rows_drop : (at : ℕ) (rows : List Row) → IsStrictlySortedBy path_cmp (row_paths rows) → IsStrictlySortedBy path_cmp (row_paths (drop at rows))
unfolding IsStrictlySortedBy
rows_drop zero rows s = s
rows_drop (suc at) [] s = tt
rows_drop (suc at) (row ∷ rows) s = rows_drop at rows s.1

none_from : (q : List ℕ) (row : Row) (rows : List Row) → IsStrictlySortedBy path_cmp (row_paths (row ∷ rows)) → path_cmp q row.path ≡ Less →
    row_at (row ∷ rows) q ≡ None
unfolding IsStrictlySortedBy
none_from q row rows s e = none_behind q (row ∷ rows) (e, all_after q row.path (row_paths rows) e s.0)

pub row_here : (rows : List Row) (at : ℕ) (q : List ℕ) (row : Row) → IsPassed (row_paths rows) at q → slice_get rows at ≡ Some row →
    path_cmp row.path q ≡ Equal → row_at rows q ≡ slice_get rows at
row_here rows at q row h is e =
    found_at rows at q h ∙ ap (λ rs. row_at rs q) (here rows at row is)
    ∙ (λ i. cond ((bytes_decides row.path q).1 (path_cmp_same row.path q e) i) (Some row) (row_at (drop (suc at) rows) q)) ∙ sym is

pub row_later : (rows : List Row) (at : ℕ) (q : List ℕ) (row : Row) → IsStrictlySortedBy path_cmp (row_paths rows) → IsPassed (row_paths rows) at q →
    slice_get rows at ≡ Some row →
    path_cmp row.path q ≡ Greater → row_at rows q ≡ None
row_later rows at q row s h is e =
    found_at rows at q h ∙ ap (λ rs. row_at rs q) (here rows at row is)
    ∙ none_from q row (drop (suc at) rows) (subst (λ rs. IsStrictlySortedBy path_cmp (row_paths rs)) (here rows at row is) (rows_drop at rows s))
    (lowered row.path q e)

pub row_none : (rows : List Row) (at : ℕ) (q : List ℕ) → IsPassed (row_paths rows) at q → length rows ≤ at → row_at rows q ≡ None
row_none rows at q h l = found_at rows at q h ∙ ap (λ rs. row_at rs q) (drop_all at rows l)

-- one more comes before it
pub row_passed : (rows : List Row) (at : ℕ) (q : List ℕ) (row : Row) → IsPassed (row_paths rows) at q → slice_get rows at ≡ Some row →
    path_cmp row.path q ≡ Less → IsPassed (row_paths rows) (at + 1) q
row_passed rows at q row h is e =
    let w = at_place rows at row is in
    let l : at < length (row_paths rows) = omega (arith, w.0, length-map rows (λ (r : Row). r.path)) in
    let p : get_or (row_paths rows) at row.path ≡ row.path = get_or-map (λ (r : Row). r.path) rows at row row.path w.0 ∙ ap (λ (r : Row). r.path) w.1 in
    record {
      inside = omega (arith, l);
      before =
          subst (All (λ x. path_cmp x q ≡ Less)) (sym (rw (add-one, take-suc (row_paths rows) at row.path l)))
          (All-push (λ x. path_cmp x q ≡ Less) (take at (row_paths rows)) (get_or (row_paths rows) at row.path) h.before
          (subst (λ y. path_cmp y q ≡ Less) (sym p) e));
    }

-- ---- paths that are at or over a path

cleared_any : (masks : List (List ℕ)) (at : ℕ) (q : List ℕ) → AllByRecursion (IsBehind q) (take at masks) →
    list_any (is_within q) masks ≡ list_any (is_within q) (drop at masks)
cleared_any masks zero q h = refl
cleared_any [] (suc at) q h = refl
cleared_any (m ∷ masks) (suc at) q h = (λ i. h.0.off i || list_any (is_within q) masks) ∙ cleared_any masks at q h.1

any_at : (masks : List (List ℕ)) (at : ℕ) (q : List ℕ) → IsCleared masks at q → list_any (is_within q) masks ≡ list_any (is_within q) (drop at masks)
any_at masks at q h = cleared_any masks at q (recursion_from_All (IsBehind q) (take at masks) h.behind)

pub masked_none : (masks : List (List ℕ)) (at : ℕ) (q : List ℕ) → IsCleared masks at q → length masks ≤ at → list_any (is_within q) masks ≡ false
masked_none masks at q h l = any_at masks at q h ∙ ap (list_any (is_within q)) (drop_all at masks l)

greater_less : Greater ≡ Less → ⊥
greater_less e = absurd (cc)

-- nothing is within a path that comes after it
off_later : IsPreorder → (q m : List ℕ) → path_cmp q m ≡ Less → is_within q m ≡ false
off_later law q m e =
    or_from (same q m) (is_under q m) (other m q Less e refl)
    (false_from_ne_true (is_under q m) (λ u. greater_less (sym (reversed q m e) ∙ law.top_down q m u)))

none_later : IsPreorder → (q : List ℕ) (masks : List (List ℕ)) → AllByRecursion (λ m. path_cmp q m ≡ Less) masks → list_any (is_within q) masks ≡ false
none_later law q [] h = refl
none_later law q (m ∷ masks) h = or_from (is_within q m) (list_any (is_within q) masks) (off_later law q m h.0) (none_later law q masks h.1)

masks_drop : (at : ℕ) (masks : List (List ℕ)) → IsStrictlySortedBy path_cmp masks → IsStrictlySortedBy path_cmp (drop at masks)
unfolding IsStrictlySortedBy
masks_drop zero masks s = s
masks_drop (suc at) [] s = tt
masks_drop (suc at) (m ∷ masks) s = masks_drop at masks s.1

none_masked : IsPreorder → (q m : List ℕ) (masks : List (List ℕ)) → IsStrictlySortedBy path_cmp (m ∷ masks) → path_cmp q m ≡ Less →
    list_any (is_within q) (m ∷ masks) ≡ false
unfolding IsStrictlySortedBy
none_masked law q m masks s e = none_later law q (m ∷ masks) (e, all_after q m masks e s.0)

pub masked_later : IsPreorder → (masks : List (List ℕ)) (at : ℕ) (q x : List ℕ) → IsStrictlySortedBy path_cmp masks → IsCleared masks at q → at < length masks →
    x ≡ get_or masks at x →
    path_cmp x q ≡ Greater → list_any (is_within q) masks ≡ false
masked_later law masks at q x s h l is e =
    let head : drop at masks ≡ x ∷ drop (suc at) masks = drop-cons masks at x l ∙ ap (λ y. y ∷ drop (suc at) masks) (sym is) in
    any_at masks at q h ∙ ap (list_any (is_within q)) head
    ∙ none_masked law q x (drop (suc at) masks) (subst (IsStrictlySortedBy path_cmp) head (masks_drop at masks s)) (lowered x q e)

-- the path itself is not off
pub masked_same : (q x : List ℕ) → path_cmp x q ≡ Equal → is_within q x ≡ false → ⊥
masked_same q x e off = false≢true (sym off ∙ ap (λ b. b || is_under q x) ((bytes_decides q x).1 (sym (path_cmp_same x q e))))

-- one more is behind it
pub one_cleared : (masks : List (List ℕ)) (at : ℕ) (q x : List ℕ) → IsCleared masks at q → at < length masks → x ≡ get_or masks at x → refusal x ≡ None →
    path_cmp x q ≡ Less → is_within q x ≡ false → IsCleared masks (at + 1) q
one_cleared masks at q x h l is valid less off =
    let b : IsBehind q x = record { valid = valid; less = less; off = off } in
    record {
      inside = omega (arith, l);
      behind =
          subst (All (IsBehind q)) (sym (rw (add-one, take-suc masks at x l)))
          (All-push (IsBehind q) (take at masks) (get_or masks at x) h.behind (subst (IsBehind q) is b));
    }

under_of : (r m : List ℕ) → path_cmp m r ≡ Less → is_within r m ≡ true → is_under r m ≡ true
under_of r m e w = ap (λ b. b || is_under r m) (sym (other m r Greater (reversed m r e) refl)) ∙ w

behind_later : UnderIsContiguous → (q r m : List ℕ) → refusal q ≡ None → path_cmp q r ≡ Less → IsBehind q m → IsBehind r m
behind_later law q r m valid e h =
    let less = path_cmp_total.trans m q r h.less e in
    record {
      valid = h.valid;
      less = less;
      off = false_from_ne_true (is_within r m) (λ w.
          let u = law.between m q r h.valid valid h.less e (under_of r m less w) in
          false≢true (sym h.off ∙ or_right (same q m) (is_under q m) u));
    }

pub cleared_later : UnderIsContiguous → (masks : List (List ℕ)) (at : ℕ) (q r : List ℕ) → refusal q ≡ None → path_cmp q r ≡ Less → IsCleared masks at q →
    IsCleared masks at r
cleared_later law masks at q r valid e h = record {
  inside = h.inside;
  behind = λ k d l. behind_later law q r (get_or (take at masks) k d) valid e (h.behind k d l);
}
