-- A side as a list of items.
use Rattle.tree_cmp.proofs.Prelude.{◌≡◌, ℕ, true, false, not, ◌&&◌, ◌||◌, List, [], ◌∷◌, map, filter, refl, ap, ◌∙◌, cond, eqb, IsTrue, Option, Some, None}
use Rattle.tree_cmp.proofs.Prelude.{is_some, AllByRecursion, option_map, pointwise, Less, recursion_from_All, path_cmp, is_under, is_within, below_of}
use Rattle.tree_cmp.proofs.Prelude.{BelowKeepsOrder, Entry, side, IsSide, is_gone, is_partial, entry_at, is_hidden, is_shown, stat_at, item_of, items_of, at}
use Rattle.tree_cmp.proofs.Prelude.{is_below_partial, has_row, item_stat, Ascend}
use Rattle.std.specs.List.Sorted.{IsStrictlySortedBy}

-- ---- the items of a side ascend

module _ (law : BelowKeepsOrder) where
  all_below : (top x : List ℕ) (es : List Entry) → IsTrue (is_within x top) → AllByRecursion (λ e. IsTrue (is_within e.path top)) es
      → AllByRecursion (λ y. path_cmp x y ≡ Less) (map (λ e. e.path) es) →
      AllByRecursion (λ y. path_cmp (below_of x top) y ≡ Less) (map (λ z. z.path) (items_of top es))
  all_below top x [] wx w h = tt
  all_below top x (e ∷ es) wx w h =
      elim (is_gone e.mark) as
      (λ b. AllByRecursion (λ y. path_cmp (below_of x top) y ≡ Less)
      (map (λ z. z.path) (map (item_of top)
      (cond (not b) (e ∷ filter (λ e. not (is_gone e.mark)) es) (filter (λ e. not (is_gone e.mark)) es))))) [
        | true ↦ all_below top x es wx w.1 h.1
        | false ↦ (law x e.path top wx w.0 ∙ h.0, all_below top x es wx w.1 h.1)
      ]

  ascends : (top : List ℕ) (es : List Entry) → AllByRecursion (λ e. IsTrue (is_within e.path top)) es
      → IsStrictlySortedBy path_cmp (map (λ e. e.path) es) → Ascend (items_of top es)
  unfolding IsStrictlySortedBy
  ascends top [] w s = tt
  ascends top (e ∷ es) w s =
      elim (is_gone e.mark) as
      (λ b. IsStrictlySortedBy path_cmp
      (map (λ z. z.path) (map (item_of top)
      (cond (not b) (e ∷ filter (λ e. not (is_gone e.mark)) es) (filter (λ e. not (is_gone e.mark)) es))))) [
        | true ↦ ascends top es w.1 s.1
        | false ↦ (all_below top e.path es w.0 w.1 s.0, ascends top es w.1 s.1)
      ]

  pub items_ascend : (top : List ℕ) (es : List Entry) → IsSide (side top es) → Ascend (items_of top es)
  items_ascend top es s = ascends top es (recursion_from_All (λ (e : Entry). IsTrue (is_within e.path top)) es s.within) s.ascends

-- ---- what a side has, by its items

pub at-items : (top p : List ℕ) (es : List Entry) → at p (items_of top es) ≡ option_map (item_of top) (entry_at (side top es) p)
at-items top p [] = refl
at-items top p (e ∷ es) =
    elim (is_gone e.mark) as (λ g. at p (map (item_of top) (cond (not g) (e ∷ filter (λ e. not (is_gone e.mark)) es) (filter (λ e. not (is_gone e.mark)) es)))
    ≡ option_map (item_of top) (cond (not g && pointwise eqb (below_of e.path top) p) (Some e) (entry_at (side top es) p))) [
      | true ↦ at-items top p es
      | false ↦ elim (pointwise eqb (below_of e.path top) p) as
          (λ b. cond b (Some (item_of top e)) (at p (items_of top es))
          ≡ option_map (item_of top) (cond b (Some e) (entry_at (side top es) p))) [
            | true ↦ refl
            | false ↦ at-items top p es
          ]
    ]

pub partial-items : (top p : List ℕ) (es : List Entry) → is_below_partial p (items_of top es) ≡ is_hidden (side top es) p
partial-items top p [] = refl
partial-items top p (e ∷ es) =
    elim (is_gone e.mark) as
    (λ g. is_below_partial p
    (map (item_of top) (cond (not g) (e ∷ filter (λ e. not (is_gone e.mark)) es) (filter (λ e. not (is_gone e.mark)) es)))
    ≡ ((not g && (is_partial e && is_under p (below_of e.path top))) || is_hidden (side top es) p)) [
      | true ↦ partial-items top p es
      | false ↦ ap (λ b. (is_partial e && is_under p (below_of e.path top)) || b) (partial-items top p es)
    ]

is_some-map : {A B : Type 0} (f : A → B) (o : Option A) → is_some (option_map f o) ≡ is_some o
is_some-map f None = refl
is_some-map f (Some x) = refl

stat-map : (top : List ℕ) (o : Option Entry) → item_stat (option_map (item_of top) o) ≡ stat_at o
stat-map top None = refl
stat-map top (Some e) = refl

pub some-items : (top p : List ℕ) (es : List Entry) → is_some (at p (items_of top es)) ≡ is_some (entry_at (side top es) p)
some-items top p es = ap is_some (at-items top p es) ∙ is_some-map (item_of top) (entry_at (side top es) p)

pub stat-items : (top p : List ℕ) (es : List Entry) → item_stat (at p (items_of top es)) ≡ stat_at (entry_at (side top es) p)
stat-items top p es = ap item_stat (at-items top p es) ∙ stat-map top (entry_at (side top es) p)

pub shown-items : (l r p : List ℕ) (es fs : List Entry) → has_row p (items_of l es) (items_of r fs) ≡ is_shown (side l es) (side r fs) p
shown-items l r p es fs = λ i. (some-items l p es i || some-items r p fs i) && not (partial-items l p es i || partial-items r p fs i)
