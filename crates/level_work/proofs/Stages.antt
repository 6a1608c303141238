-- Level by level.
use Rattle.level_work.proofs.Prelude.{◌≡◌, ◌⊎◌, inl, inr, ℕ, ◌+◌, ◌<◌, ◌≤◌, true, false, cond, List, length, Option, Some, None, refl, ap, ◌∙◌, sym, subst}
use Rattle.level_work.proofs.Prelude.{arith, nat_eq, nat_lt, nat_le, slice_get, nat_tests, get, get-insert, get-remove, same_map, pointwise, bytes_decides}
use Rattle.level_work.proofs.Prelude.{is_within, level_of, path_cmp_total, path_cmp_same, Files, Node, Deed, at_and_under, with_at, HasFate, OneLevel}
use Rattle.level_work.proofs.Prelude.{is_level_done, Sofar, Item, Fate, Order, deeper, as_deep, itself, less, longer, tie}
use Rattle.level_work.specs.declared.items.Order.TheVariants as order
use Rattle.level_work.proofs.Frames.{get_at, same_at}

pub get_with : (p : List ℕ) (o : Option Node) (files : Files) (q : List ℕ) → get (with_at p o files) q ≡ cond (pointwise nat_eq q p) o (get files q)
get_with p None files q = get-remove path_cmp_total files p q ∙ ap (λ b. cond b None (get files q)) (tie q p)
get_with p (Some n) files q = get-insert path_cmp_total files p n q ∙ ap (λ b. cond b (Some n) (get files q)) (tie q p)

-- the map at and under a path, where the two differ at the path alone
pub with_here : (p : List ℕ) (a b : Files) → ((q : List ℕ) → is_within q p ≡ true → pointwise nat_eq q p ≡ false → get b q ≡ get a q)
    → with_at p (get b p) (at_and_under p a) ≡ at_and_under p b
with_here p a b h = same_map path_cmp_total path_cmp_same _ _
    (λ q. get_with p (get b p) (at_and_under p a) q
    ∙ elim (pointwise nat_eq q p) as
    (λ c. pointwise nat_eq q p ≡ c → cond c (get b p) (get (at_and_under p a) q) ≡ get (at_and_under p b) q) [
      | true ↦ λ is. let e = (bytes_decides q p).0 is in
          ap (get b) (sym e) ∙ ap (λ c. cond c (get b q) None) (sym (ap (λ x. is_within x p) e ∙ itself p)) ∙ sym (get_at p b q)
      | false ↦ λ off. get_at p a q ∙ elim (is_within q p) as (λ c. is_within q p ≡ c → cond c (get a q) None ≡ cond c (get b q) None) [
        | true ↦ λ on. sym (h q on off)
        | false ↦ λ _. refl
      ] refl ∙ sym (get_at p b q)
    ] refl)

-- no path on one level is one on another
pub other_level : (q p : List ℕ) → (level_of q ≡ level_of p → ⊥) → pointwise nat_eq q p ≡ false
other_level q p n = elim (pointwise nat_eq q p) as (λ b. pointwise nat_eq q p ≡ b → b ≡ false) [
  | true ↦ λ is. absurd (n (ap level_of ((bytes_decides q p).0 is)))
  | false ↦ λ _. refl
] refl

-- the level that is next, and t once it is done
abbrev pub Next : Order → ℕ → ℕ → ℕ → Type 0
Next order.TopDown t l t' = (l ≡ t) × (t' ≡ t + 1)
Next order.BottomUp t l t' = (t ≡ l + 1) × (t' ≡ l)

pub le_true : (a b : ℕ) → nat_le a b ≡ true → a ≤ b
le_true a b e = grind (arith, nat_tests)

pub true_le : (a b : ℕ) → a ≤ b → nat_le a b ≡ true
true_le a b e = grind (arith, nat_tests)

pub done_after : (o : Order) (t l t' m : ℕ) → Next o t l t' → is_level_done o t' m ≡ true → (m ≡ l) ⊎ (is_level_done o t m ≡ true)
done_after order.TopDown t l t' m n e = elim (nat_lt m t) as (λ c. nat_lt m t ≡ c → (m ≡ l) ⊎ (nat_lt m t ≡ true)) [
  | true ↦ λ is. inr is
  | false ↦ λ is. inl (let k = longer m t' e in grind (arith, nat_tests))
] refl
done_after order.BottomUp t l t' m n e = elim (nat_le t m) as (λ c. nat_le t m ≡ c → (m ≡ l) ⊎ (nat_le t m ≡ true)) [
  | true ↦ λ is. inr is
  | false ↦ λ is. inl (let k = le_true t' m e in grind (arith, nat_tests))
] refl

-- no item of the next level is done
pub not_here : (o : Order) (t l t' m : ℕ) → Next o t l t' → is_level_done o t m ≡ true → m ≡ l → ⊥
not_here order.TopDown t l t' m n e s = let k = longer m t e in omega (arith, n.0, s, k)
not_here order.BottomUp t l t' m n e s = let k = le_true t m e in omega (arith, n.0, s, k)

pub still_done : (o : Order) (t l t' m : ℕ) → Next o t l t' → is_level_done o t m ≡ true → is_level_done o t' m ≡ true
still_done order.TopDown t l t' m n e = let k = longer m t e in less m t' (omega (arith, k, n.1))
still_done order.BottomUp t l t' m n e = let k = le_true t m e in true_le t' m (omega (arith, k, n.0, n.1))

pub now_done : (o : Order) (t l t' : ℕ) → Next o t l t' → is_level_done o t' l ≡ true
now_done order.TopDown t l t' n = less l t' (omega (arith, n.0, n.1))
now_done order.BottomUp t l t' n = true_le t' l (omega (arith, n.1))

module _ (deed : Deed) (items : List Item) (fates : List Fate) (before now next : Files) where
  -- an item that was done before keeps its fate
  old_fate : (o : Order) (t l t' : ℕ) (x : Item) (f : Fate) → Next o t l t' → 0 < length x.path → OneLevel deed l items fates now next
      → is_level_done o t (level_of x.path) ≡ true → HasFate deed o before now x f → HasFate deed o before next x f
  old_fate order.TopDown t l t' x f n some one done h =
      let same : get next x.path ≡ get now x.path =
      one.others x.path (λ k y at on.
      other_level x.path y.path (λ e. not_here order.TopDown t l t' (level_of x.path) n done (e ∙ on))) in
      record {
        touched = λ g. subst (λ m. deed x.path x.entry f (at_and_under x.path before) (with_at x.path m (at_and_under x.path before))) (sym same) (h.touched g);
        untouched = λ g. same ∙ h.untouched g;
      }
  old_fate order.BottomUp t l t' x f n some one done h =
      let same : get next x.path ≡ get now x.path =
      one.others x.path (λ k y at on.
      other_level x.path y.path (λ e. not_here order.BottomUp t l t' (level_of x.path) n done (e ∙ on))) in
      let far = le_true t (level_of x.path) done in
      let whole : at_and_under x.path next ≡ at_and_under x.path now =
      same_at x.path now next (λ q on.
      one.others q (λ k y at lev. other_level q y.path (λ s. let d = as_deep q x.path some on in
      omega (arith, d, far, s, lev, n.0)))) in
      record {
        touched = λ g. subst (λ m. deed x.path x.entry f (with_at x.path (get before x.path) m) m) (sym whole) (h.touched g);
        untouched = λ g. same ∙ h.untouched g;
      }

  -- what an item of the next level finds is not yet touched
  new_fate : (o : Order) (t l t' k : ℕ) (x : Item) (f : Fate) → Next o t l t' → 0 < length x.path
      → ((q : List ℕ) → ((k : ℕ) (x : Item) → slice_get items k ≡ Some x → is_level_done o t (level_of x.path) ≡ true
      → pointwise nat_eq q x.path ≡ false) → get now q ≡ get before q) →
      OneLevel deed l items fates now next → slice_get items k ≡ Some x → slice_get fates k ≡ Some f → level_of x.path ≡ l → HasFate deed o before next x f
  new_fate order.TopDown t l t' k x f n some pending one at has lev =
      let fresh : (q : List ℕ) → is_within q x.path ≡ true → get now q ≡ get before q =
      λ q on. pending q (λ j y is done. other_level q y.path (λ s. let d = as_deep q x.path some on in
      let e = longer (level_of y.path) t done in omega (arith, d, e, s, lev, n.0))) in
      let was : at_and_under x.path now ≡ at_and_under x.path before = same_at x.path before now fresh in
      let is : with_at x.path (get next x.path) (at_and_under x.path before) ≡ at_and_under x.path next =
      with_here x.path before next
      (λ q on off. one.others q
      (λ j y at l'. other_level q y.path (λ s. let d = deeper q x.path some on off in omega (arith, d, s, l', lev))) ∙ fresh q on) in
      record {
        touched = λ g. subst (λ m. deed x.path x.entry f (at_and_under x.path before) m) (sym is)
            (subst (λ m. deed x.path x.entry f m (at_and_under x.path next)) was (one.touched k x f at has lev g));
        untouched = λ g. one.untouched k x f at has lev g ∙ fresh x.path (itself x.path);
      }
  new_fate order.BottomUp t l t' k x f n some pending one at has lev =
      let here : get now x.path ≡ get before x.path =
      pending x.path (λ j y is done. other_level x.path y.path (λ s. let e = le_true t (level_of y.path) done in omega (arith, e, s, lev, n.0))) in
      let was : with_at x.path (get now x.path) (at_and_under x.path next) ≡ at_and_under x.path now =
      with_here x.path next now
      (λ q on off. sym (one.others q
      (λ j y at l'. other_level q y.path (λ s. let d = deeper q x.path some on off in omega (arith, d, s, l', lev))))) in
      record {
        touched = λ g. subst (λ m. deed x.path x.entry f m (at_and_under x.path next))
            (sym was ∙ ap (λ m. with_at x.path m (at_and_under x.path next)) here) (one.touched k x f at has lev g);
        untouched = λ g. one.untouched k x f at has lev g ∙ here;
      }

  -- one level more
  pub level_more : (o : Order) (t l t' : ℕ) (old : List Fate) → Next o t l t' → ((k : ℕ) (x : Item) → slice_get items k ≡ Some x → 0 < length x.path) →
      ((k : ℕ) (x : Item) → slice_get items k ≡ Some x → is_level_done o t (level_of x.path) ≡ true → slice_get fates k ≡ slice_get old k) →
      Sofar deed o t items old before now → OneLevel deed l items fates now next → Sofar deed o t' items fates before next
  level_more o t l t' old n some kept s one = record {
    pending = λ q off. one.others q (λ k y at lev. off k y at (subst (λ m. is_level_done o t' m ≡ true) (sym lev) (now_done o t l t' n)))
        ∙ s.pending q (λ k y at done. off k y at (still_done o t l t' (level_of y.path) n done));
    each = λ k x f at has done. by_level k x f at has (done_after o t l t' (level_of x.path) n done);
  }
    where
      by_level : (k : ℕ) (x : Item) (f : Fate) → slice_get items k ≡ Some x → slice_get fates k ≡ Some f → (level_of x.path ≡ l)
          ⊎ (is_level_done o t (level_of x.path) ≡ true) → HasFate deed o before next x f
      by_level k x f at has (inl lev) = new_fate o t l t' k x f n (some k x at) s.pending one at has lev
      by_level k x f at has (inr done) = old_fate o t l t' x f n (some k x at) one done (s.each k x f at (sym (kept k x at done) ∙ has) done)
