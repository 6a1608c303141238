-- One pass over the entries of a list.
use Rattle.tree_cmp.proofs.Prelude.{◌≡◌, ⊎_elim, ℕ, ◌+◌, ◌-◌, ◌<◌, zero, suc, Bool, List, [], ◌∷◌, ◌++◌, length, take, get_or, cond, true, filter, Some, None}
use Rattle.tree_cmp.proofs.Prelude.{ap, sym, ◌∙◌, subst, arith, add-one, Less, take-suc, get_or_default, filter-append, slice_get_cases, below_of}
use Rattle.tree_cmp.proofs.Prelude.{BelowKeepsOrder, path_cmp, is_within, path_cmp_total, Entry, IsPassed, IsNext}
use Rattle.std.specs.Prelude.{slice_get, IsTrue}
use Rattle.std.specs.List.{All}
use Rattle.flat_list.specs.Spelling.{paths}
use Rattle.std.specs.List.Sorted.{IsStrictlySortedBy}

-- ---- where a pass stands

pub some_same : {A : Type 0} (x y : A) → Some x ≡ Some y → x ≡ y
some_same x y e = cc

pub none_some : {A : Type 0} (x : A) → None ≡ Some x → ⊥
none_some x e = absurd (cc)

-- the element at a place of a list
pub at_place : {X : Type 0} (xs : List X) (k : ℕ) (x : X) → slice_get xs k ≡ Some x → (k < length xs) × (get_or xs k x ≡ x)
at_place xs k x is =
    ⊎_elim (λ w. let e : w.0 ≡ x = some_same w.0 x (sym w.2 ∙ is) in (w.1, subst (λ y. get_or xs k y ≡ y) e w.3))
    (λ w. absurd (none_some x (sym w.1 ∙ is))) (slice_get_cases xs k).1

-- the entry that a cursor came to
pub record IsHere (side : List Entry) (k : ℕ) (e : Entry) (cursor : List Entry × ℕ) : Type 0 where
  pub inside : k < length side
  pub is : get_or side k e ≡ e
  pub moved : cursor ≡ (side, k + 1)

pub here : (side : List Entry) (old new : List Entry × ℕ) (e : Entry) (more : Bool) → old.0 ≡ side → new ≡ (old.0, cond more (old.1 + 1) old.1) →
    more ≡ true → slice_get new.0 (new.1 - 1) ≡ Some e → IsHere side old.1 e new
here side old new e more same passed some is =
    let moved : new ≡ (old.0, old.1 + 1) = passed ∙ ap (λ b. (old.0, cond b (old.1 + 1) old.1)) some in
    let at : new.1 - 1 ≡ old.1 = omega (arith, ap (λ (p : List Entry × ℕ). p.1) moved) in
    let of : new.0 ≡ side = ap (λ (p : List Entry × ℕ). p.0) moved ∙ same in
    let found = at_place side old.1 e ((λ i. slice_get (sym of i) (sym at i)) ∙ is) in
    record { inside = found.0; is = found.1; moved = moved ∙ (λ i. (same i, old.1 + 1)) }

pub step : (side : List Entry) (k : ℕ) (e : Entry) (new : List Entry × ℕ) → IsHere side k e new → new.1 ≡ k + 1
step side k e new h = ap (λ (p : List Entry × ℕ). p.1) h.moved

pub whole : (side : List Entry) (k : ℕ) (e : Entry) (new : List Entry × ℕ) → IsHere side k e new → new.0 ≡ side
whole side k e new h = ap (λ (p : List Entry × ℕ). p.0) h.moved

-- ---- the next entry

-- the next one is behind it
pub sorted_next : (es : List Entry) (k : ℕ) (d : Entry) → IsStrictlySortedBy path_cmp (paths es) → suc k < length es →
    path_cmp (get_or es k d).path (get_or es (suc k) d).path ≡ Less
unfolding IsStrictlySortedBy
sorted_next [] k d s l = absurd (omega (arith, l))
sorted_next (e ∷ []) k d s l = absurd (omega (arith, l))
sorted_next (e ∷ f ∷ es) zero d s l = s.0.0
sorted_next (e ∷ f ∷ es) (suc k) d s l = sorted_next (f ∷ es) k d s.1 (omega (arith, l))

-- two entries that follow each other
pub follow : (side : List Entry) (k : ℕ) (e d : Entry) (new : List Entry × ℕ) → IsHere side k e new → IsStrictlySortedBy path_cmp (paths side) →
    k + 1 < length side →
    path_cmp e.path (get_or side (k + 1) d).path ≡ Less
follow side k e d new h s l =
    let same : e ≡ get_or side k d = sym h.is ∙ get_or_default side k e d h.inside in
    let less = sorted_next side k d s (omega (arith, l)) in
    (λ i. path_cmp (same i).path (get_or side (add-one k i) d).path) ∙ less

-- and their paths below a top
pub follow_below : BelowKeepsOrder → (top : List ℕ) (side : List Entry) (k : ℕ) (e d : Entry) (new : List Entry × ℕ) → IsHere side k e new →
    IsStrictlySortedBy path_cmp (paths side) → All (λ e. IsTrue (is_within e.path top)) side → k + 1 < length side →
    path_cmp (below_of e.path top) (below_of (get_or side (k + 1) d).path top) ≡ Less
follow_below law top side k e d new h s within l =
    let first : IsTrue (is_within e.path top) = subst (λ (x : Entry). IsTrue (is_within x.path top)) h.is (within k e h.inside) in
    law e.path (get_or side (k + 1) d).path top first (within (k + 1) d l) ∙ follow side k e d new h s l

-- ---- a search beside the pass

-- what is sought next comes later
pub passed_later : (paths : List (List ℕ)) (at : ℕ) (q r : List ℕ) → path_cmp q r ≡ Less → IsPassed paths at q → IsPassed paths at r
passed_later paths at q r e h = record {
  inside = h.inside;
  before = λ k d l. path_cmp_total.trans (get_or (take at paths) k d) q r (h.before k d l) e;
}

-- a search is not past the entry that the pass came to
pub sought_here : (IsSo : List (List ℕ) → ℕ → List ℕ → Type 0) (key : Entry → List ℕ) (side : List Entry) (k : ℕ) (e : Entry) (new : List Entry × ℕ)
    (all : List (List ℕ)) (at : ℕ) (sought : List ℕ) → IsHere side k e new → IsNext IsSo key side k all at → sought ≡ key e → IsSo all at sought
sought_here IsSo key side k e new all at sought h next is = subst (IsSo all at) (ap key h.is ∙ sym is) (next.1 e h.inside)

pub next_below : BelowKeepsOrder → (top : List ℕ) (side : List Entry) (k : ℕ) (e : Entry) (new : List Entry × ℕ) (all : List (List ℕ)) (at : ℕ) →
    IsHere side k e new →
    IsStrictlySortedBy path_cmp (paths side) → All (λ e. IsTrue (is_within e.path top)) side → IsPassed all at (below_of e.path top) →
    IsNext IsPassed (λ e. below_of e.path top) side new.1 all at
next_below law top side k e new all at h s within p =
    subst (λ n. IsNext IsPassed (λ e. below_of e.path top) side n all at) (sym (step side k e new h)) (
      p.inside,
      λ d l. passed_later all at (below_of e.path top) (below_of (get_or side (k + 1) d).path top)
          (follow_below law top side k e d new h s within l) p,
    )

-- ---- the entries so far

pub taken : (side : List Entry) (k : ℕ) (e : Entry) (new : List Entry × ℕ) → IsHere side k e new → take new.1 side ≡ take k side ++ e ∷ []
taken side k e new h =
    (λ i. take ((step side k e new h ∙ add-one k) i) side) ∙ take-suc side k e h.inside ∙ (λ i. take k side ++ h.is i ∷ [])

-- those that pass a test
pub filtered_more : (P : Entry → Bool) (side was now : List Entry) (k : ℕ) (e : Entry) (new : List Entry × ℕ) (kept : Bool) → IsHere side k e new →
    was ≡ filter P (take k side) → kept ≡ P e → now ≡ was ++ cond kept (e ∷ []) [] → now ≡ filter P (take new.1 side)
filtered_more P side was now k e new kept h so_far is more =
    more ∙ (λ i. so_far i ++ cond (is i) (e ∷ []) []) ∙ sym (filter-append P (take k side) (e ∷ [])) ∙ ap (filter P) (sym (taken side k e new h))
