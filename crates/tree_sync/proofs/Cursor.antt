-- One pass over the entries of a list, beside a search for a path that is at or over that of an entry.
use Rattle.tree_sync.proofs.Prelude.{◌≡◌, ℕ, ◌+◌, ◌≤◌, Bool, List, [], ◌∷◌, ◌++◌, length, take, get_or, cond, true, false, filter, None, ap, sym, ◌∙◌, subst}
use Rattle.tree_sync.proofs.Prelude.{arith, length-append, IsTrue, All, IsStrictlySortedBy, filter-append, below_of, BelowKeepsOrder, path_cmp, is_within}
use Rattle.tree_sync.proofs.Prelude.{UnderIsContiguous, refusal, Entry, paths, IsNext, IsHere, follow_below, step, taken, IsCleared}
use Rattle.tree_sync.proofs.Passed.{cleared_later}

abbrev below_top : List ℕ → Entry → List ℕ
below_top top e = below_of e.path top

-- a search that did not pass an entry does not pass the next one
pub next_cleared : BelowKeepsOrder → UnderIsContiguous → (top : List ℕ) (side : List Entry) (k : ℕ) (e : Entry) (new : List Entry × ℕ) (all : List (List ℕ))
    (at : ℕ) → IsHere side k e new →
    IsStrictlySortedBy path_cmp (paths side) → All (λ e. IsTrue (is_within e.path top)) side → refusal (below_of e.path top) ≡ None →
    IsCleared all at (below_of e.path top) → IsNext IsCleared (below_top top) side new.1 all at
next_cleared law near top side k e new all at h s within valid p =
    subst (λ n. IsNext IsCleared (below_top top) side n all at) (sym (step side k e new h)) (
      p.inside,
      λ d l. cleared_later near all at (below_of e.path top) (below_of (get_or side (k + 1) d).path top) valid
          (follow_below law top side k e d new h s within l) p,
    )

-- how many of the entries so far pass a test
pub counted_more : (P : Entry → Bool) (side : List Entry) (was now k : ℕ) (e : Entry) (new : List Entry × ℕ) (kept : Bool) → IsHere side k e new →
    was ≡ length (filter P (take k side)) → kept ≡ P e → now ≡ cond kept (was + 1) was → now ≡ length (filter P (take new.1 side))
counted_more P side was now k e new kept h so_far is more =
    more ∙ (λ i. cond (is i) (so_far i + 1) (so_far i)) ∙ by (P e)
    ∙ sym (ap length (filter-append P (take k side) (e ∷ []))) ∙ ap (λ es. length (filter P es)) (sym (taken side k e new h))
  where
    by : (b : Bool) → cond b (length (filter P (take k side)) + 1) (length (filter P (take k side))) ≡
        length (filter P (take k side) ++ cond b (e ∷ []) [])
    by true = omega (arith, length-append (filter P (take k side)) (e ∷ []))
    by false = omega (arith, length-append (filter P (take k side)) ([]))

pub few_more : (b : Bool) (was now k n : ℕ) → now ≡ cond b (was + 1) was → was ≤ k → n ≡ k + 1 → now ≤ n
few_more true was now k n e l m = omega (arith, e, l, m)
few_more false was now k n e l m = omega (arith, e, l, m)
