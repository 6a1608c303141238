-- Filters of lists that ascend, and the paths that are masked.
use Rattle.tree_sync.proofs.Prelude.{◌≡◌, ℕ, Bool, true, false, cond, ◌||◌, ◌&&◌, List, [], ◌∷◌, ◌++◌, map, filter, not, is_some, refl, ap, ◌∙◌, sym, IsTrue}
use Rattle.tree_sync.proofs.Prelude.{AllByRecursion, list_any, Less, map-append, filter-append, recursion_from_All, below_of, BelowKeepsOrder, path_cmp}
use Rattle.tree_sync.proofs.Prelude.{is_within, Entry, paths, Side, side, IsSide, Row, is_chosen_off, masks_of, has_other, is_chosen, is_foreign, is_masked}
use Rattle.tree_sync.proofs.Prelude.{row_at}
use Rattle.std.specs.List.Sorted.{IsStrictlySortedBy}

less_kept : {X : Type 0} (key : X → List ℕ) (p : X → Bool) (x : List ℕ) (xs : List X) → AllByRecursion (λ z. path_cmp x z ≡ Less) (map key xs) →
    AllByRecursion (λ z. path_cmp x z ≡ Less) (map key (filter p xs))
less_kept key p x [] h = tt
less_kept key p x (y ∷ xs) h = elim (p y) as (λ b. AllByRecursion (λ z. path_cmp x z ≡ Less) (map key (cond b (y ∷ filter p xs) (filter p xs)))) [
  | true ↦ (h.0, less_kept key p x xs h.1)
  | false ↦ less_kept key p x xs h.1
]

pub kept_ascends : {X : Type 0} (key : X → List ℕ) (p : X → Bool) (xs : List X) → IsStrictlySortedBy path_cmp (map key xs) →
    IsStrictlySortedBy path_cmp (map key (filter p xs))
unfolding IsStrictlySortedBy
kept_ascends key p [] s = tt
kept_ascends key p (x ∷ xs) s = elim (p x) as (λ b. IsStrictlySortedBy path_cmp (map key (cond b (x ∷ filter p xs) (filter p xs)))) [
  | true ↦ (less_kept key p (key x) xs s.0, kept_ascends key p xs s.1)
  | false ↦ kept_ascends key p xs s.1
]

less_below : BelowKeepsOrder → (top : List ℕ) (e : Entry) (es : List Entry) → IsTrue (is_within e.path top) →
    AllByRecursion (λ e. IsTrue (is_within e.path top)) es → AllByRecursion (λ z. path_cmp e.path z ≡ Less) (paths es) →
    AllByRecursion (λ z. path_cmp (below_of e.path top) z ≡ Less) (map (λ e. below_of e.path top) es)
less_below law top e [] w within h = tt
less_below law top e (f ∷ es) w within h = (law e.path f.path top w within.0 ∙ h.0, less_below law top e es w within.1 h.1)

below_ascends : BelowKeepsOrder → (top : List ℕ) (es : List Entry) → AllByRecursion (λ e. IsTrue (is_within e.path top)) es →
    IsStrictlySortedBy path_cmp (paths es) → IsStrictlySortedBy path_cmp (map (λ e. below_of e.path top) es)
unfolding IsStrictlySortedBy
below_ascends law top [] within s = tt
below_ascends law top (e ∷ es) within s = (less_below law top e es within.0 within.1 s.0, below_ascends law top es within.1 s.1)

pub masks_ascend : BelowKeepsOrder → (l : Side) → IsSide l → IsStrictlySortedBy path_cmp (masks_of l)
masks_ascend law l h =
    kept_ascends (λ e. below_of e.path l.top) has_other l.entries
    (below_ascends law l.top l.entries (recursion_from_All (λ (e : Entry). IsTrue (is_within e.path l.top)) l.entries h.within) h.ascends)

any_of : (top p : List ℕ) (es : List Entry) → list_any (is_within p) (map (λ e. below_of e.path top) (filter has_other es)) ≡
    list_any (λ e. has_other e && is_within p (below_of e.path top)) es
any_of top p [] = refl
any_of top p (e ∷ es) =
    elim (has_other e) as
    (λ b. list_any (is_within p) (map (λ e. below_of e.path top) (cond b (e ∷ filter has_other es) (filter has_other es)))
    ≡ ((b && is_within p (below_of e.path top)) || list_any (λ e. has_other e && is_within p (below_of e.path top)) es)) [
      | true ↦ ap (λ b. is_within p (below_of e.path top) || b) (any_of top p es)
      | false ↦ any_of top p es
    ]

-- a path is masked where it is within one of the masks
pub masks_any : (l : Side) (p : List ℕ) → list_any (is_within p) (masks_of l) ≡ is_masked l p
masks_any l p = any_of l.top p l.entries

one_mask : (top : List ℕ) (e : Entry) (b : Bool) → has_other e ≡ b →
    map (λ e. below_of e.path top) (filter has_other (e ∷ [])) ≡ cond b (below_of e.path top ∷ []) []
one_mask top e true is = ap (λ c. map (λ e. below_of e.path top) (cond c (e ∷ []) [])) is
one_mask top e false is = ap (λ c. map (λ e. below_of e.path top) (cond c (e ∷ []) [])) is

-- the masks of one entry more
pub masks_more : (top : List ℕ) (all so_far : List Entry) (e : Entry) (was now : List (List ℕ)) → all ≡ so_far ++ e ∷ [] →
    was ≡ masks_of (side top so_far) → now ≡ was ++ cond (has_other e) (below_of e.path top ∷ []) [] → now ≡ masks_of (side top all)
masks_more top all so_far e was now is before more =
    more ∙ (λ i. before i ++ sym (one_mask top e (has_other e) refl) i)
    ∙ sym (ap (map (λ e. below_of e.path top)) (filter-append has_other so_far (e ∷ []))
    ∙ map-append (λ (e : Entry). below_of e.path top) (filter has_other so_far) (filter has_other (e ∷ [])))
    ∙ ap (λ es. masks_of (side top es)) (sym is)

-- so the choice by the masks is the choice
pub chosen_off : (l r : Side) (rows : List Row) (es : List Entry) → filter (is_chosen_off (masks_of l) r rows) es ≡ filter (is_chosen l r rows) es
chosen_off l r rows es =
    λ i. filter (λ e. is_some e.stat && (is_foreign (row_at rows (below_of e.path r.top)) && not (masks_any l (below_of e.path r.top) i))) es
