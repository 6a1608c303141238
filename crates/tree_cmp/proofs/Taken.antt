-- One path more: what both sides have at the next path in path order.
use Rattle.tree_cmp.proofs.Prelude.{◌≡◌, ℕ, ◌+◌, Bool, true, false, not, ◌&&◌, ◌||◌, List, [], ◌∷◌, ◌++◌, map, append_assoc, refl, ap, ◌∙◌, sym, subst, arith}
use Rattle.tree_cmp.proofs.Prelude.{cond, eqb, append-nil, if◌then◌else◌, Option, Some, None, is_some, AllByRecursion, cons_option, false≢true, or_from}
use Rattle.tree_cmp.proofs.Prelude.{and_right, or_right, false_from_ne_true, pointwise, bytes_decides, is_le, is_ge, ordering_reverse, Ordering, Less, Equal}
use Rattle.tree_cmp.proofs.Prelude.{Greater, path_cmp_total, path_cmp_same, path_cmp, is_under, IsPreorder, UnderIsContiguous, refusal, Item, Two, Draft}
use Rattle.tree_cmp.proofs.Prelude.{All-from_recursion, at, is_below_partial, draft_of, paths, AreDrafts, Behind, under_some, BehindSome, is_partial_item}
use Rattle.tree_cmp.proofs.Prelude.{shown_from, is_row, From, Heads, order_by, path_of, Ascend, Ready, Takes, BeforeSome, hidden_after, row_after, one_way}
use Rattle.tree_cmp.proofs.Prelude.{irreflexive, at_itself}
use Rattle.std.specs.List.Sorted.{IsStrictlySortedBy}
use Rattle.tree_cmp.proofs.Under.{none_later}

pub same : (x y : List ℕ) → pointwise eqb x y ≡ true → x ≡ y
same x y e = (bytes_decides x y).0 e

-- what stands behind a path
none_at : (p : List ℕ) (items : List Item) → Behind p items → at p items ≡ None
none_at p [] h = refl
none_at p (x ∷ items) h =
    let other : pointwise eqb x.path p ≡ false =
    false_from_ne_true (pointwise eqb x.path p) (λ e. irreflexive p (subst (λ y. path_cmp p y ≡ Less) (same x.path p e) h.0)) in
    (λ i. cond (other i) (Some x) (at p items)) ∙ none_at p items h.1

found_behind : (p q : List ℕ) (items : List Item) → Behind p items → is_some (at q items) ≡ true → path_cmp p q ≡ Less
found_behind p q [] h e = absurd (false≢true e)
found_behind p q (x ∷ items) h e =
    elim (pointwise eqb x.path q) as (λ b. pointwise eqb x.path q ≡ b → is_some (cond b (Some x) (at q items)) ≡ true → path_cmp p q ≡ Less) [
      | true ↦ λ t e. subst (λ y. path_cmp p y ≡ Less) (same x.path q t) h.0
      | false ↦ λ t e. found_behind p q items h.1 e
    ] refl e

not_hidden : IsPreorder → (p : List ℕ) (items : List Item) → Behind p items → is_below_partial p items ≡ false
not_hidden order p [] h = refl
not_hidden order p (x ∷ items) h =
    or_from (x.partial && is_under p x.path) (is_below_partial p items)
    (and_right x.partial (is_under p x.path) (false_from_ne_true (is_under p x.path) (λ e. one_way p x.path h.0 (order.top_down p x.path e))))
    (not_hidden order p items h.1)

-- what a side has at the path, and at another
at_here : (p : List ℕ) (items : List Item) (a : Option Item) (rest : List Item) → Heads p items a rest → at p items ≡ a
at_here p items None rest h = ap (at p) h.are ∙ none_at p rest h.behind
at_here p items (Some x) rest h = ap (at p) h.are ∙ (λ i. cond (pointwise eqb (h.path x refl i) p) (Some x) (at p rest))
    ∙ (λ i. cond (at_itself p i) (Some x) (at p rest))

at_other : (p q : List ℕ) (items : List Item) (a : Option Item) (rest : List Item) → Heads p items a rest → pointwise eqb p q ≡ false → at q items ≡ at q rest
at_other p q items None rest h e = ap (at q) h.are
at_other p q items (Some x) rest h e = ap (at q) h.are ∙ (λ i. cond (pointwise eqb (h.path x refl i) q) (Some x) (at q rest))
    ∙ (λ i. cond (e i) (Some x) (at q rest))

-- what a side hides
hidden_by : (p q : List ℕ) (items : List Item) (a : Option Item) (rest : List Item) → Heads p items a rest
    → is_below_partial q items ≡ ((is_partial_item a && is_under q p) || is_below_partial q rest)
hidden_by p q items None rest h = ap (is_below_partial q) h.are
hidden_by p q items (Some x) rest h = ap (is_below_partial q) h.are ∙ (λ i. (x.partial && is_under q (h.path x refl i)) || is_below_partial q rest)

-- two that differ
pub differ : (p q : List ℕ) → path_cmp p q ≡ Less → pointwise eqb p q ≡ false
differ p q l = false_from_ne_true (pointwise eqb p q) (λ e. irreflexive p (subst (λ y. path_cmp p y ≡ Less) (sym (same p q e)) l))

not_under_itself : IsPreorder → (p : List ℕ) → is_under p p ≡ false
not_under_itself order p = false_from_ne_true (is_under p p) (λ e. irreflexive p (order.top_down p p e))

first_of_and : (a b : Bool) → true ≡ (a && b) → a ≡ true
first_of_and true b e = refl
first_of_and false b e = absurd (false≢true (sym e))

weaker : (P Q : Draft → Type 0) → ((d : Draft) → P d → Q d) → (ds : List Draft) → AllByRecursion P ds → AllByRecursion Q ds
weaker P Q g [] h = tt
weaker P Q g (d ∷ ds) h = (g d h.0, weaker P Q g ds h.1)

-- each row's path is a row
pub rows_there : (ds : List Draft) → AllByRecursion (λ d. is_row d.row.path ds ≡ true) ds
rows_there [] = tt
rows_there (d ∷ ds) = (
  (λ i. at_itself d.row.path i || is_row d.row.path ds),
  weaker (λ e. is_row e.row.path ds ≡ true) (λ e. is_row e.row.path (d ∷ ds) ≡ true)
      (λ e h. or_right (pointwise eqb d.row.path e.row.path) (is_row e.row.path ds) h) ds (rows_there ds),
)

paths_behind : (p : List ℕ) (ds : List Draft) → AllByRecursion (λ d. path_cmp p d.row.path ≡ Less) ds → AllByRecursion (λ y. path_cmp p y ≡ Less) (paths ds)
paths_behind p [] h = tt
paths_behind p (d ∷ ds) h = (h.0, paths_behind p ds h.1)

shown_under : (x y z u : Bool) → u ≡ true → (x && not (y || (z || u))) ≡ false
shown_under x y z u e = grind arith

no_more : (x m n u y z t : Bool) → (u ≡ true → t ≡ true) → (x && not (((m && u) || y) || (((n && u) || z) || t))) ≡ (x && not (y || (z || t)))
no_more x m n u y z t e = grind arith

all_told : (x m n u y z t : Bool) → (m || n) ≡ false → (x && not (((m && u) || y) || (((n && u) || z) || t))) ≡ (x && not (y || (z || t)))
all_told x m n u y z t e = grind arith

some_told : (x m n u y z t : Bool) → (m || n) ≡ true → (x ≡ true → t ≡ false)
    → (x && not (((m && u) || y) || (((n && u) || z) || t))) ≡ (x && not (y || (z || u)))
some_told x m n u y z t e h = grind arith

under_both : UnderIsContiguous → (p : List ℕ) (h : Option (List ℕ)) (q : List ℕ) → under_some p h ≡ true → is_under q p ≡ true → under_some q h ≡ true
under_both contiguous p None q u e = absurd (false≢true u)
under_both contiguous p (Some k) q u e = contiguous.deeper q p k e u

not_under_later : UnderIsContiguous → (p : List ℕ) (h : Option (List ℕ)) (q : List ℕ) → refusal p ≡ None → BeforeSome h p
    → under_some p h ≡ false → path_cmp p q ≡ Less → under_some q h ≡ false
not_under_later contiguous p None q v g u l = refl
not_under_later contiguous p (Some k) q v g u l = none_later contiguous k p q g.0 v g.1 u l

module _ (order : IsPreorder) (contiguous : UnderIsContiguous) (links : List ℕ → Two) (p : List ℕ) (h : Option (List ℕ)) (l r : List Item)
    (a b : Option Item) (l' r' : List Item) (left : Heads p l a l') (right : Heads p r b r') where
  some_behind : (q : List ℕ) → (is_some (at q l') || is_some (at q r')) ≡ true → path_cmp p q ≡ Less
  some_behind q e =
      elim (is_some (at q l')) as (λ s. is_some (at q l') ≡ s → (s || is_some (at q r')) ≡ true → path_cmp p q ≡ Less) [
        | true ↦ λ t e. found_behind p q l' left.behind t
        | false ↦ λ t e. found_behind p q r' right.behind e
      ] refl e

  -- at the path itself
  shown_here : (is_some a || is_some b) ≡ true → under_some p h ≡ false → shown_from h p l r ≡ true
  shown_here s u =
      let al = at_here p l a l' left in
      let ar = at_here p r b r' right in
      let hl : is_below_partial p l ≡ false = hidden_by p p l a l' left
      ∙ or_from _ _ (and_right (is_partial_item a) (is_under p p) (not_under_itself order p)) (not_hidden order p l' left.behind) in
      let hr : is_below_partial p r ≡ false = hidden_by p p r b r' right
      ∙ or_from _ _ (and_right (is_partial_item b) (is_under p p) (not_under_itself order p)) (not_hidden order p r' right.behind) in
      (λ i. (is_some (al i) || is_some (ar i)) && not (hl i || (hr i || u i))) ∙ (λ i. s i && true)

  -- at another path
  shown_other : (q : List ℕ) → pointwise eqb p q ≡ false →
      shown_from h q l r ≡ ((is_some (at q l') || is_some (at q r'))
      && not (((is_partial_item a && is_under q p) || is_below_partial q l')
      || (((is_partial_item b && is_under q p) || is_below_partial q r') || under_some q h)))
  shown_other q e = λ i. (is_some (at_other p q l a l' left e i) || is_some (at_other p q r b r' right e i))
      && not (hidden_by p q l a l' left i || (hidden_by p q r b r' right i || under_some q h))

  -- the path is not shown later
  not_shown_later : (k : Option (List ℕ)) → shown_from k p l' r' ≡ false
  not_shown_later k = λ i. (is_some (none_at p l' left.behind i) || is_some (none_at p r' right.behind i))
      && not (is_below_partial p l' || (is_below_partial p r' || under_some p k))

  at_later : (q : List ℕ) → path_cmp p q ≡ Less → draft_of (links q) q (at q l') (at q r') ≡ draft_of (links q) q (at q l) (at q r)
  at_later q e = sym (λ i. draft_of (links q) q (at_other p q l a l' left (differ p q e) i) (at_other p q r b r' right (differ p q e) i))

  each_later : (ds : List Draft) → AllByRecursion (λ d. path_cmp p d.row.path ≡ Less) ds
      → AllByRecursion (λ d. d ≡ draft_of (links d.row.path) d.row.path (at d.row.path l') (at d.row.path r')) ds →
      AllByRecursion (λ d. d ≡ draft_of (links d.row.path) d.row.path (at d.row.path l) (at d.row.path r)) ds
  each_later [] h g = tt
  each_later (d ∷ ds) h g = (g.0 ∙ at_later d.row.path h.0, each_later ds h.1 g.1)

  -- the rows of the rest stand behind the path
  rows_behind : (k : Option (List ℕ)) (rest : List Draft) → From links k l' r' rest → AllByRecursion (λ d. path_cmp p d.row.path ≡ Less) rest
  rows_behind k rest f = weaker (λ d. is_row d.row.path rest ≡ true) (λ d. path_cmp p d.row.path ≡ Less)
      (λ d e. some_behind d.row.path
      (first_of_and (is_some (at d.row.path l') || is_some (at d.row.path r'))
      (not (is_below_partial d.row.path l' || (is_below_partial d.row.path r' || under_some d.row.path k))) (sym e ∙ f.shown d.row.path)))
      rest (rows_there rest)

  -- where the path lies under one whose children are not all known, it has no row
  pub skips : under_some p h ≡ true → (rest : List Draft) → From links h l' r' rest → From links h l r rest
  skips u rest f = record { ascend = f.ascend; shown = λ q. f.shown q ∙ sym (skipped q); each = each_later rest (rows_behind h rest f) f.each }
    where
      skipped : (q : List ℕ) → shown_from h q l r ≡ shown_from h q l' r'
      skipped q = elim (pointwise eqb p q) as (λ s. pointwise eqb p q ≡ s → shown_from h q l r ≡ shown_from h q l' r') [
        | true ↦ λ e. subst (λ y. shown_from h y l r ≡ shown_from h y l' r') (same p q e) (shown_under _ _ _ (under_some p h) u ∙ sym (not_shown_later h))
        | false ↦ λ e. shown_other q e
            ∙ no_more _ (is_partial_item a) (is_partial_item b) (is_under q p) (is_below_partial q l') (is_below_partial q r')
            (under_some q h) (under_both contiguous p h q u)
      ] refl

  -- else it has one, before the rows of the rest, if at other paths these show what the whole shows
  one_row : (is_some a || is_some b) ≡ true → under_some p h ≡ false → (k : Option (List ℕ)) (rest : List Draft) → From links k l' r' rest
      → ((q : List ℕ) → pointwise eqb p q ≡ false → shown_from k q l' r' ≡ shown_from h q l r) → From links h l r (draft_of (links p) p a b ∷ rest)
  unfolding IsStrictlySortedBy
  one_row s u k rest f others = record {
    ascend = (paths_behind p rest (rows_behind k rest f), f.ascend);
    shown = λ q. shown_q q;
    each = (sym (λ i. draft_of (links p) p (at_here p l a l' left i) (at_here p r b r' right i)), each_later rest (rows_behind k rest f) f.each);
  }
    where
      shown_q : (q : List ℕ) → (pointwise eqb p q || is_row q rest) ≡ shown_from h q l r
      shown_q q = elim (pointwise eqb p q) as (λ s. pointwise eqb p q ≡ s → (s || is_row q rest) ≡ shown_from h q l r) [
        | true ↦ λ e. subst (λ y. true ≡ shown_from h y l r) (same p q e) (sym (shown_here s u))
        | false ↦ λ e. f.shown q ∙ others q e
      ] refl

  -- where its children are all known
  pub shows : (is_some a || is_some b) ≡ true → under_some p h ≡ false → (is_partial_item a || is_partial_item b) ≡ false
      → (rest : List Draft) → From links h l' r' rest → From links h l r (draft_of (links p) p a b ∷ rest)
  shows s u n rest f = one_row s u h rest f (λ q e. sym (shown_other q e ∙ all_told _ (is_partial_item a) (is_partial_item b) (is_under q p)
      (is_below_partial q l') (is_below_partial q r') (under_some q h) n))

  -- and where they are not, nothing under it has one
  pub shows_alone : (is_some a || is_some b) ≡ true → under_some p h ≡ false → (is_partial_item a || is_partial_item b) ≡ true
      → refusal p ≡ None → BeforeSome h p → (rest : List Draft) → From links (Some p) l' r' rest → From links h l r (draft_of (links p) p a b ∷ rest)
  shows_alone s u n v g rest f = one_row s u (Some p) rest f (λ q e. sym (shown_other q e ∙ some_told _ (is_partial_item a) (is_partial_item b)
      (is_under q p) (is_below_partial q l') (is_below_partial q r') (under_some q h) n
      (λ t. not_under_later contiguous p h q v g u (some_behind q t))))

-- ---- which side is next

behind_from : (p : List ℕ) (items : List Item) → AllByRecursion (λ y. path_cmp p y ≡ Less) (map (λ x. x.path) items) → Behind p items
behind_from p [] h = tt
behind_from p (x ∷ items) h = (h.0, behind_from p items h.1)

behind_later : (p q : List ℕ) (items : List Item) → path_cmp p q ≡ Less → Behind q items → Behind p items
behind_later p q [] e h = tt
behind_later p q (x ∷ items) e h = (path_cmp_total.trans p q x.path e h.0, behind_later p q items e h.1)

behind_next : (x : Item) (items : List Item) → Ascend (x ∷ items) → Behind x.path items
unfolding IsStrictlySortedBy
behind_next x items s = behind_from x.path items s.0

only : (x y : Item) → (z : Item) → Some x ≡ Some z → x ≡ y → z ≡ y
only x y z e d = cc

-- the item of one side is next, and the other side is behind it
is_x : (x : Item) → (z : Item) → Some x ≡ Some z → z.path ≡ x.path
is_x x z e = let d : z ≡ x = cc in ap (λ (y : Item). y.path) d

is_x_at : (x : Item) (p : List ℕ) → x.path ≡ p → (z : Item) → Some x ≡ Some z → z.path ≡ p
is_x_at x p g z e = is_x x z e ∙ g

never_x : (p : List ℕ) (z : Item) → None ≡ Some z → z.path ≡ p
never_x p z e = cc

pub takes : (na nb : Option Item) (ml mr : List Item) → Ascend (cons_option na ml) → Ascend (cons_option nb mr) → (na ≡ None → ml ≡ [])
    → (nb ≡ None → mr ≡ []) → (is_some na || is_some nb) ≡ true →
    Takes (cons_option na ml) (cons_option nb mr) (cond (is_le (order_by na nb)) na None) (cond (is_ge (order_by na nb)) nb None)
    (cond (is_le (order_by na nb)) ml (cons_option na ml)) (cond (is_ge (order_by na nb)) mr (cons_option nb mr))
takes None None ml mr s t e d some = absurd (false≢true some)
takes None (Some y) ml mr s t e d some = record {
  some = refl;
  left = record { are = refl; path = never_x y.path; behind = subst (Behind y.path) (sym (e refl)) tt };
  right = record { are = refl; path = is_x y; behind = behind_next y mr t };
}
takes (Some x) None ml mr s t e d some = record {
  some = refl;
  left = record { are = refl; path = is_x x; behind = behind_next x ml s };
  right = record { are = refl; path = never_x x.path; behind = subst (Behind x.path) (sym (d refl)) tt };
}
takes (Some x) (Some y) ml mr s t e d some =
    elim (path_cmp x.path y.path) as
    (λ o. path_cmp x.path y.path ≡ o
    → Takes (x ∷ ml) (y ∷ mr) (cond (is_le o) (Some x) None) (cond (is_ge o) (Some y) None) (cond (is_le o) ml (x ∷ ml))
    (cond (is_ge o) mr (y ∷ mr))) [
      | Less ↦ λ g. record {
        some = refl;
        left = record { are = refl; path = is_x x; behind = behind_next x ml s };
        right = record { are = refl; path = never_x x.path; behind = (g, behind_later x.path y.path mr g (behind_next y mr t)) };
      }
      | Equal ↦ λ g. record {
        some = refl;
        left = record { are = refl; path = is_x x; behind = behind_next x ml s };
        right = record {
          are = refl;
          path = is_x_at y x.path (sym (path_cmp_same x.path y.path g));
          behind = subst (λ p. Behind p mr) (sym (path_cmp_same x.path y.path g)) (behind_next y mr t);
        };
      }
      | Greater ↦ λ g.
          let less : path_cmp y.path x.path ≡ Less = path_cmp_total.antisymm y.path x.path ∙ ap ordering_reverse g in
          record {
            some = refl;
            left = record { are = refl; path = never_x y.path; behind = (less, behind_later y.path x.path ml less (behind_next x ml s)) };
            right = record { are = refl; path = is_x y; behind = behind_next y mr t };
          }
    ] refl

-- ---- one step

ascend_rest : (a : Option Item) (rest : List Item) → Ascend (cons_option a rest) → Ascend rest
unfolding IsStrictlySortedBy
ascend_rest None rest s = s
ascend_rest (Some x) rest s = s.1

behind_rest : (u : List ℕ) (a : Option Item) (rest : List Item) → Behind u (cons_option a rest) → Behind u rest
behind_rest u None rest h = h
behind_rest u (Some x) rest h = h.1

above_rest : (h : Option (List ℕ)) (a : Option Item) (rest : List Item) → BehindSome h (cons_option a rest) → BehindSome h rest
above_rest None a rest b = tt
above_rest (Some u) a rest b = (b.0, behind_rest u a rest b.1)

above_path : (h : Option (List ℕ)) (l r : List Item) (a b : Option Item) (l' r' : List Item) → Takes l r a b l' r' → Ready h l r → BeforeSome h (path_of a b)
above_path None l r a b l' r' t y = tt
above_path (Some u) l r None None l' r' t y = absurd (false≢true t.some)
above_path (Some u) l r None (Some z) l' r' t y = (y.above_right.0, (subst (Behind u) t.right.are y.above_right.1).0)
above_path (Some u) l r (Some x) b l' r' t y = (y.above_left.0, (subst (Behind u) t.left.are y.above_left.1).0)

pub ready_after : (h : Option (List ℕ)) (l r : List Item) (a b : Option Item) (l' r' : List Item) → Takes l r a b l' r' → Ready h l r
    → refusal (path_of a b) ≡ None → Ready (hidden_after h a b) l' r'
ready_after h l r a b l' r' t y z =
    let left : Ascend l' = ascend_rest a l' (subst Ascend t.left.are y.left) in
    let right : Ascend r' = ascend_rest b r' (subst Ascend t.right.are y.right) in
    let kept : Ready h l' r' = record {
      left = left;
      right = right;
      above_left = above_rest h a l' (subst (BehindSome h) t.left.are y.above_left);
      above_right = above_rest h b r' (subst (BehindSome h) t.right.are y.above_right);
    } in
    elim (under_some (path_of a b) h) as (λ u. Ready (cond u h (cond (is_partial_item a || is_partial_item b) (Some (path_of a b)) h)) l' r') [
      | true ↦ kept
      | false ↦ elim (is_partial_item a || is_partial_item b) as (λ n. Ready (cond n (Some (path_of a b)) h) l' r') [
        | true ↦ record { left = left; right = right; above_left = (z, t.left.behind); above_right = (z, t.right.behind) }
        | false ↦ kept
      ]
    ]

pub step : IsPreorder → UnderIsContiguous → (links : List ℕ → Two) (h : Option (List ℕ)) (l r : List Item) (a b : Option Item) (l' r' : List Item)
    → Takes l r a b l' r' → Ready h l r → refusal (path_of a b) ≡ None → (rest : List Draft) → From links (hidden_after h a b) l' r' rest
    → From links h l r (row_after (links (path_of a b)) h a b ++ rest)
step order contiguous links h l r a b l' r' t y v rest =
    elim (under_some (path_of a b) h) as
    (λ u. under_some (path_of a b) h ≡ u
    → From links (cond u h (cond (is_partial_item a || is_partial_item b) (Some (path_of a b)) h)) l' r' rest
    → From links h l r (cond u [] (draft_of (links (path_of a b)) (path_of a b) a b ∷ []) ++ rest)) [
      | true ↦ λ u f. skips order contiguous links (path_of a b) h l r a b l' r' t.left t.right u rest f
      | false ↦ λ u. elim (is_partial_item a || is_partial_item b) as
          (λ n. (is_partial_item a || is_partial_item b) ≡ n → From links (cond n (Some (path_of a b)) h) l' r' rest
          → From links h l r (draft_of (links (path_of a b)) (path_of a b) a b ∷ rest)) [
            | true ↦ λ n f. shows_alone order contiguous links (path_of a b) h l r a b l' r' t.left t.right t.some u n v (above_path h l r a b l' r' t y) rest f
            | false ↦ λ n f. shows order contiguous links (path_of a b) h l r a b l' r' t.left t.right t.some u n rest f
          ] refl
    ] refl

pub over : (links : List ℕ → Two) (h : Option (List ℕ)) → From links h [] [] []
unfolding IsStrictlySortedBy
over links h = record { ascend = tt; shown = λ p. refl; each = tt }

or_none : (b : Bool) → (b || false) ≡ b
or_none true = refl
or_none false = refl

pub whole : (links : List ℕ → Two) (l r : List Item) (drafts : List Draft) → From links None l r (drafts ++ []) → AreDrafts links l r drafts
whole links l r drafts f =
    let g : From links None l r drafts = subst (From links None l r) (append-nil drafts) f in
    record {
      ascend = g.ascend;
      shown = λ p. g.shown p ∙ (λ i. (is_some (at p l) || is_some (at p r)) && not (is_below_partial p l || or_none (is_below_partial p r) i));
      each = All-from_recursion (λ d. d ≡ draft_of (links d.row.path) d.row.path (at d.row.path l) (at d.row.path r)) drafts g.each;
    }

-- a turn of the loop
abbrev pub Popped : Bool → Option Item → List Item → Option Item → List Item → Type 0
Popped wanted next rest a rest' = (a ≡ (if wanted then next else None)) × (rest' ≡ (if wanted then rest else cons_option next rest))

pub took : (na nb : Option Item) (ml mr : List Item) (o : Ordering) (le ge : Bool) (a b : Option Item) (l' r' : List Item) (h : Option (List ℕ)) →
    o ≡ order_by na nb → le ≡ is_le o → ge ≡ is_ge o → Popped le na ml a l' → Popped ge nb mr b r' →
    Ready h (cons_option na ml) (cons_option nb mr) → (na ≡ None → ml ≡ []) → (nb ≡ None → mr ≡ []) → (is_some na || is_some nb) ≡ true →
    Takes (cons_option na ml) (cons_option nb mr) a b l' r'
took na nb ml mr o le ge a b l' r' h eo el eg pa pb y e d s =
    let le_is : le ≡ is_le (order_by na nb) = el ∙ ap is_le eo in
    let ge_is : ge ≡ is_ge (order_by na nb) = eg ∙ ap is_ge eo in
    let ea : a ≡ cond (is_le (order_by na nb)) na None = pa.0 ∙ (λ i. cond (le_is i) na None) in
    let eb : b ≡ cond (is_ge (order_by na nb)) nb None = pb.0 ∙ (λ i. cond (ge_is i) nb None) in
    let fl : l' ≡ cond (is_le (order_by na nb)) ml (cons_option na ml) = pa.1 ∙ (λ i. cond (le_is i) ml (cons_option na ml)) in
    let fr : r' ≡ cond (is_ge (order_by na nb)) mr (cons_option nb mr) = pb.1 ∙ (λ i. cond (ge_is i) mr (cons_option nb mr)) in
    let L = cons_option na ml in
    let R = cons_option nb mr in
    subst (λ z. Takes L R z b l' r') (sym ea)
    (subst (λ z. Takes L R (cond (is_le (order_by na nb)) na None) z l' r') (sym eb)
    (subst (λ z. Takes L R (cond (is_le (order_by na nb)) na None) (cond (is_ge (order_by na nb)) nb None) z r') (sym fl)
    (subst (λ z. Takes L R (cond (is_le (order_by na nb)) na None) (cond (is_ge (order_by na nb)) nb None) (cond (is_le (order_by na nb)) ml L) z) (sym fr)
    (takes na nb ml mr y.left y.right e d s))))

pub ready_next : (h h' : Option (List ℕ)) (l r : List Item) (a b : Option Item) (l' r' : List Item) → Takes l r a b l' r' → Ready h l r
    → refusal (path_of a b) ≡ None → h' ≡ hidden_after h a b → Ready h' l' r'
ready_next h h' l r a b l' r' t y v e = subst (λ k. Ready k l' r') (sym e) (ready_after h l r a b l' r' t y v)

pub goes_on : IsPreorder → UnderIsContiguous → (links : List ℕ → Two) (h h' : Option (List ℕ)) (l r : List Item) (a b : Option Item) (l' r' : List Item)
    → Takes l r a b l' r' → Ready h l r → refusal (path_of a b) ≡ None → h' ≡ hidden_after h a b →
    (L R : List Item) (before after : List Draft) → after ≡ before ++ row_after (links (path_of a b)) h a b →
    ((rest : List Draft) → From links h l r rest → From links None L R (before ++ rest)) →
    (rest : List Draft) → From links h' l' r' rest → From links None L R (after ++ rest)
goes_on order contiguous links h h' l r a b l' r' t y v e L R before after d g rest f =
    let row = row_after (links (path_of a b)) h a b in
    subst (From links None L R) (sym (ap (λ x. x ++ rest) d ∙ append_assoc before row rest))
    (g (row ++ rest) (step order contiguous links h l r a b l' r' t y v rest (subst (λ k. From links k l' r' rest) e f)))

none_left : (next : Option Item) (items : List Item) → false ≡ is_some next → (next ≡ None → items ≡ []) → cons_option next items ≡ []
none_left None items e g = g refl
none_left (Some x) items e g = absurd (false≢true e)

pub ended : (links : List ℕ → Two) (h : Option (List ℕ)) (nl nr : Option Item) (ml mr L R L' R' : List Item) (drafts : List Draft) → false ≡ is_some nl
    → false ≡ is_some nr → (nl ≡ None → ml ≡ []) → (nr ≡ None → mr ≡ []) →
    ((rest : List Draft) → From links h (cons_option nl ml) (cons_option nr mr) rest → From links None L R (drafts ++ rest)) → L ≡ L' → R ≡ R'
    → AreDrafts links L' R' drafts
ended links h nl nr ml mr L R L' R' drafts e d el er g sl sr =
    let f : From links h (cons_option nl ml) (cons_option nr mr) [] =
    subst (λ l. From links h l (cons_option nr mr) []) (sym (none_left nl ml e el))
    (subst (λ r. From links h [] r []) (sym (none_left nr mr d er)) (over links h)) in
    subst (λ l. AreDrafts links l R' drafts) sl (subst (λ r. AreDrafts links L r drafts) sr (whole links L R drafts (g [] f)))
