-- What stands at the head of both sides is what they have at its path, and so are the texts of two links.
use Rattle.tree_cmp.proofs.Prelude.{◌≡◌, ℕ, ◌-◌, zero, suc, Bool, true, false, not, ◌&&◌, List, [], ◌∷◌, map, filter, drop, refl, ap, ◌∙◌, sym, subst, cond}
use Rattle.tree_cmp.proofs.Prelude.{eqb, Option, Some, None, is_some, IfSome, AllByRecursion, slice_get, option_map, pointwise, Less, false≢true, and_right}
use Rattle.tree_cmp.proofs.Prelude.{path_cmp, below_of, Entry, is_of, Item, Feed, Two, Side, side, is_gone, entry_at, target_at, texts, sizes, item_of}
use Rattle.tree_cmp.proofs.Prelude.{items_of, links_at, content_before, draft_of, ahead, Ascend, IsCurrent, current, side_of, path_of, row_after, under_some}
use Rattle.tree_cmp.proofs.Prelude.{at_itself}
use Rattle.std.specs.List.Sorted.{IsStrictlySortedBy}
use Rattle.outside.specs.declared.trees.Kind.TheVariants as kind
use Rattle.tree_cmp.proofs.Taken.{differ}

-- what all items have, the entry at a place has, unless it is gone
item_in : (P : List ℕ → Type 0) (top : List ℕ) (es : List Entry) (k : ℕ) (e : Entry) → AllByRecursion P (map (λ x. x.path) (items_of top es))
    → slice_get es k ≡ Some e → is_gone e.mark ≡ false → P (below_of e.path top)
item_in P top [] k e h s g = absurd cc
item_in P top (d ∷ es) zero e h s g =
    let same : d ≡ e = cc in
    (subst (λ b. AllByRecursion P
    (map (λ x. x.path) (map (item_of top) (cond (not b) (e ∷ filter (λ e. not (is_gone e.mark)) es) (filter (λ e. not (is_gone e.mark)) es))))) g
    (subst (λ x. AllByRecursion P (map (λ x. x.path) (items_of top (x ∷ es)))) same h)).0
item_in P top (d ∷ es) (suc k) e h s g =
    elim (is_gone d.mark) as
    (λ b. AllByRecursion P
    (map (λ x. x.path) (map (item_of top) (cond (not b) (d ∷ filter (λ e. not (is_gone e.mark)) es) (filter (λ e. not (is_gone e.mark)) es))))
    → P (below_of e.path top)) [
      | true ↦ λ h. item_in P top es k e h s g
      | false ↦ λ h. item_in P top es k e h.1 s g
    ] h

-- the entry at a place is what the side has at its path
found_at : (top : List ℕ) (es : List Entry) (k : ℕ) (e : Entry) → Ascend (items_of top es) → slice_get es k ≡ Some e → is_gone e.mark ≡ false
    → entry_at (side top es) (below_of e.path top) ≡ Some e
unfolding IsStrictlySortedBy
found_at top [] k e a s g = absurd cc
found_at top (d ∷ es) zero e a s g =
    let same : d ≡ e = cc in
    subst (λ x. entry_at (side top (x ∷ es)) (below_of e.path top) ≡ Some e) (sym same)
    (λ i. cond (not (g i) && at_itself (below_of e.path top) i) (Some e) (entry_at (side top es) (below_of e.path top)))
found_at top (d ∷ es) (suc k) e a s g =
    elim (is_gone d.mark) as
    (λ b. Ascend (map (item_of top) (cond (not b) (d ∷ filter (λ e. not (is_gone e.mark)) es) (filter (λ e. not (is_gone e.mark)) es)))
    → cond (not b && pointwise eqb (below_of d.path top) (below_of e.path top)) (Some d) (entry_at (side top es) (below_of e.path top)) ≡ Some e) [
      | true ↦ λ a. found_at top es k e a s g
      | false ↦ λ a.
          let less = item_in (λ y. path_cmp (below_of d.path top) y ≡ Less) top es k e a.0 s g in
          (λ i. cond (differ (below_of d.path top) (below_of e.path top) less i) (Some d) (entry_at (side top es) (below_of e.path top)))
          ∙ found_at top es k e a.1 s g
    ] a

-- the entry of an item is what its side has at its path
current_at : (f : Feed) (s : Side) (x : Item) → side_of f ≡ s → Ascend (items_of s.top s.entries) → IsCurrent f x → entry_at s x.path ≡ current f
current_at f s x e a c =
    subst (λ t. entry_at t x.path ≡ current f) e
    (by_current (current f) refl c.there c.path (subst (λ t. Ascend (items_of t.top t.entries)) (sym e) a))
  where
    by_current : (o : Option Entry) → current f ≡ o → option_map (λ e. is_gone e.mark) o ≡ Some false
        → option_map (λ e. below_of e.path f.top.now) o ≡ Some x.path → Ascend (items_of f.top.now f.cursor.0) → entry_at (side_of f) x.path ≡ o
    by_current None is there path a = absurd cc
    by_current (Some e) is there path a =
        let at : below_of e.path f.top.now ≡ x.path = cc in
        let is_there : is_gone e.mark ≡ false = cc in
        subst (λ p. entry_at (side_of f) p ≡ Some e) at (found_at f.top.now f.cursor.0 (f.cursor.1 - 1) e a is is_there)

chosen : (wanted : Bool) (next a : Option Item) → a ≡ cond wanted next None → is_some a ≡ true → next ≡ a
chosen true next a e s = sym e
chosen false next a e s = absurd (false≢true (sym (ap is_some e) ∙ s))

-- the texts of two links at the heads of both sides
heads_link : (lf rf : Feed) (l r : Side) (a b : Option Item) (links : Two) → side_of lf ≡ l → side_of rf ≡ r
    → Ascend (items_of l.top l.entries) → Ascend (items_of r.top r.entries) → IfSome a (IsCurrent lf) → IfSome b (IsCurrent rf)
    → ((y : Item) → b ≡ Some y → y.path ≡ path_of a b) → links ≡ texts (target_at (current lf)) (target_at (current rf))
    → is_some a ≡ true → is_some b ≡ true → links ≡ links_at l r (path_of a b)
heads_link lf rf l r None b links el er al ar ca cb p e sa sb = absurd (false≢true sa)
heads_link lf rf l r (Some x) None links el er al ar ca cb p e sa sb = absurd (false≢true sb)
heads_link lf rf l r (Some x) (Some y) links el er al ar ca cb p e sa sb =
    let there = current_at lf l x el al ca in
    let other = subst (λ q. entry_at r q ≡ current rf) (p y refl) (current_at rf r y er ar cb) in
    e ∙ sym (λ i. texts (target_at (there i)) (target_at (other i)))

pub popped_link : (lf rf : Feed) (l r : Side) (nl nr a b : Option Item) (le ge : Bool) (links : Two) → side_of lf ≡ l → side_of rf ≡ r
    → Ascend (items_of l.top l.entries) → Ascend (items_of r.top r.entries) → IfSome nl (IsCurrent lf) → IfSome nr (IsCurrent rf)
    → a ≡ cond le nl None → b ≡ cond ge nr None → ((y : Item) → b ≡ Some y → y.path ≡ path_of a b)
    → (is_some nl ≡ true → is_some nr ≡ true → links ≡ texts (target_at (current lf)) (target_at (current rf)))
    → is_some a ≡ true → is_some b ≡ true → links ≡ links_at l r (path_of a b)
popped_link lf rf l r nl nr a b le ge links el er al ar cl cr ea eb p e sa sb =
    let same_l : nl ≡ a = chosen le nl a ea sa in
    let same_r : nr ≡ b = chosen ge nr b eb sb in
    heads_link lf rf l r a b links el er al ar (subst (λ o. IfSome o (IsCurrent lf)) same_l cl) (subst (λ o. IfSome o (IsCurrent rf)) same_r cr) p
    (e (ap is_some same_l ∙ sa) (ap is_some same_r ∙ sb)) sa sb

-- of a path on one side alone it does not matter which links agree
pub row_links : (x y : Two) (h : Option (List ℕ)) (a b : Option Item) → (is_some a ≡ true → is_some b ≡ true → x ≡ y)
    → row_after x h a b ≡ row_after y h a b
row_links x y h None b e = refl
row_links x y h (Some z) (Some w) e = λ i. row_after (e refl refl i) h (Some z) (Some w)
row_links x y h (Some z) None e =
    let none = and_right (is_of kind.Link z.stat) false refl in
    let same : content_before x z.stat None ≡ content_before y z.stat None =
    (λ i. cond (none i) x (sizes z.stat None)) ∙ sym (λ i. cond (none i) y (sizes z.stat None)) in
    let d = draft_of x z.path (Some z) None in
    λ i. cond (under_some z.path h) [] (record d { row = record d.row { content = same i } } ∷ [])

-- a feed that has not begun has its whole side ahead
pub whole_ascends : (f g : Feed) → side_of g ≡ side_of f → f.cursor.1 ≡ 0 → Ascend (ahead f) → Ascend (items_of (side_of g).top (side_of g).entries)
whole_ascends f g e z a =
    subst (λ (s : Side). Ascend (items_of s.top s.entries)) (sym e) (subst (λ n. Ascend (items_of f.top.now (drop n f.cursor.0))) z a)
