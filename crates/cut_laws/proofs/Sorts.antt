-- The order of a sort ties no two paths, so it puts a list in one order.
use Rattle.cut_laws.proofs.Prelude.{◌≡◌, ℕ, ◌+◌, Bool, true, false, cond, List, [], ◌∷◌, map, get_or, zero, suc, refl, ap, ◌∙◌, sym, subst, arith, eqb}
use Rattle.cut_laws.proofs.Prelude.{AllByRecursion, sum_by, IsSorted, on, is_lt, ordering_then, ordering_reverse, Ordering, Less, Equal, Greater, IsTotalOrder}
use Rattle.cut_laws.proofs.Prelude.{pointwise, bytes_decides, nat_list_eq_equiv, false≢true, on_total, tied_itself, length-map, sum_by-cons}
use Rattle.cut_laws.proofs.Prelude.{sum_by-IsPermutation, sorted_far, ranks_by, recursion_from_All, get_or-map, path_cmp, path_cmp_same, Entry, Field, by_path}
use Rattle.cut_laws.proofs.Prelude.{by_field, turned, sort_order, sort_order_total, bare, paths_of, moved, one, one-same, unequal, SortsAreUnique, sum_by-map}
use Rattle.std.specs.List.Sorted.{IsStrictlySortedBy}
use Rattle.entry_pages.specs.declared.entries.Mark.TheVariants as mark

-- ---- paths in an order that ties no two of them

record IsOrder (R : List ℕ → List ℕ → Ordering) : Type 0 where
  total : IsTotalOrder R
  alone : (p q : List ℕ) → R p q ≡ Equal → p ≡ q

-- y is not before x
abbrev NotBefore : (List ℕ → List ℕ → Ordering) → List ℕ → List ℕ → Type 0
NotBefore R x y = is_lt (R y x) ≡ false

abbrev Rises : (List ℕ → List ℕ → Ordering) → List (List ℕ) → Type 0
Rises R [] = Unit {0}
Rises R (x ∷ xs) = AllByRecursion (NotBefore R x) xs × Rises R xs

rises : (R : List ℕ → List ℕ → Ordering) → IsTotalOrder R → (xs : List (List ℕ)) → IsSorted R xs → Rises R xs
rises R o [] s = tt
rises R o (x ∷ xs) s = (
  recursion_from_All (NotBefore R x) xs
      (λ k d h. sorted_far (λ a b. is_lt (R a b)) (ranks_by o (λ y. y)) (x ∷ xs) s 0 (suc k) d (omega arith) (omega (arith, h))),
  rises R o xs (λ k d g h.
      let place : suc k + 1 ≡ suc (k + 1) = omega arith in
      subst (λ n. is_lt (R (get_or (x ∷ xs) n d) (get_or xs k d)) ≡ false) place (s (suc k) d (omega (arith, g)) (omega (arith, h)))),
)

-- x is before y, and z is not
not_there : (R : List ℕ → List ℕ → Ordering) (x y z : List ℕ) → R x y ≡ Less → NotBefore R y z → one x z ≡ 0
not_there R x y z l n = elim (pointwise eqb x z) as (λ b. pointwise eqb x z ≡ b → cond b 1 0 ≡ zero) [
  | true ↦ λ e. absurd (false≢true (sym n ∙ ap (λ w. is_lt (R w y)) (sym ((bytes_decides x z).0 e)) ∙ ap is_lt l))
  | false ↦ λ e. refl
] refl

none_there : (R : List ℕ → List ℕ → Ordering) (x y : List ℕ) (zs : List (List ℕ)) → R x y ≡ Less → AllByRecursion (NotBefore R y) zs →
    sum_by (one x) zs ≡ 0
none_there R x y [] l h = refl
none_there R x y (z ∷ zs) l h = omega (arith, sum_by-cons (one x) z zs, not_there R x y z l h.0, none_there R x y zs l h.1)

first_less : (R : List ℕ → List ℕ → Ordering) → IsTotalOrder R → (x y : List ℕ) (xs ys : List (List ℕ)) → AllByRecursion (NotBefore R y) ys →
    ((k : List ℕ → ℕ) → sum_by k (x ∷ xs) ≡ sum_by k (y ∷ ys)) → R x y ≡ Less → ⊥
first_less R o x y xs ys h e l =
    let self : one x x ≡ 1 = one-same x x refl in
    let here : one x y ≡ 0 = not_there R x y y l (ap is_lt (tied_itself o y)) in
    omega (arith, e (one x), sum_by-cons (one x) x xs, self, sum_by-cons (one x) y ys, here, none_there R x y ys l h)

same_order : (R : List ℕ → List ℕ → Ordering) → IsOrder R → (xs ys : List (List ℕ)) → Rises R xs → Rises R ys →
    ((k : List ℕ → ℕ) → sum_by k xs ≡ sum_by k ys) → xs ≡ ys
same_order R o [] [] s t e = refl
same_order R o [] (y ∷ ys) s t e = absurd (omega (arith, e (λ z. 1), sum_by-cons (λ (z : List ℕ). 1) y ys))
same_order R o (x ∷ xs) [] s t e = absurd (omega (arith, e (λ z. 1), sum_by-cons (λ (z : List ℕ). 1) x xs))
same_order R o (x ∷ xs) (y ∷ ys) s t e =
    elim (R x y) as (λ c. R x y ≡ c → (x ∷ xs) ≡ (y ∷ ys)) [
      | Less ↦ λ l. absurd (first_less R o.total x y xs ys t.0 e l)
      | Greater ↦ λ g. absurd (first_less R o.total y x ys xs s.0 (λ k. sym (e k)) (o.total.antisymm y x ∙ ap ordering_reverse g))
      | Equal ↦ λ q.
          let first = o.alone x y q in
          let rest = same_order R o xs ys s.1 t.1 (λ k. omega (arith, e k, sum_by-cons k x xs, sum_by-cons k y ys, ap k first)) in
          λ i. first i ∷ rest i
    ] refl

-- ---- the entries by their paths

-- the entry that a list has of a path, or one with no more than the path
abbrev entry_at : List Entry → List ℕ → Entry
entry_at [] q = bare q mark.Gone
entry_at (e ∷ es) q = cond (pointwise eqb e.path q) e (entry_at es q)

at_path : (es : List Entry) (q : List ℕ) → (entry_at es q).path ≡ q
at_path [] q = refl
at_path (e ∷ es) q = elim (pointwise eqb e.path q) as (λ b. pointwise eqb e.path q ≡ b → (cond b e (entry_at es q)).path ≡ q) [
  | true ↦ λ h. (bytes_decides e.path q).0 h
  | false ↦ λ h. at_path es q
] refl

-- each entry is the one that the list has of its path
abbrev AreAt : List Entry → List Entry → Type 0
AreAt list es = AllByRecursion (λ e. e ≡ entry_at list e.path) es

later : (e : Entry) (es fs : List Entry) → AllByRecursion (λ q. path_cmp e.path q ≡ Less) (paths_of fs) → AreAt es fs → AreAt (e ∷ es) fs
later e es [] l h = tt
later e es (f ∷ fs) l h = (h.0 ∙ sym (ap (λ b. cond b e (entry_at es f.path)) (unequal e.path f.path l.0)), later e es fs l.1 h.1)

each_at : (es : List Entry) → IsStrictlySortedBy path_cmp (paths_of es) → AreAt es es
unfolding IsStrictlySortedBy
each_at [] s = tt
each_at (e ∷ es) s = (sym (ap (λ b. cond b e (entry_at es e.path)) (nat_list_eq_equiv.refl e.path)), later e es es s.0 (each_at es s.1))

by_paths : (list es : List Entry) → AreAt list es → es ≡ map (entry_at list) (paths_of es)
by_paths list [] h = refl
by_paths list (e ∷ es) h = λ i. h.0 i ∷ by_paths list es h.1 i

-- ---- the order of a sort, seen on the paths

abbrev order_in : List Entry → Field → Bool → List ℕ → List ℕ → Ordering
order_in list field down = on (entry_at list) (sort_order field down)

tie : (a b : Ordering) → ordering_then a b ≡ Equal → b ≡ Equal
tie Equal b e = e
tie _ b e = cc

is_order : (list : List Entry) (field : Field) (down : Bool) → IsOrder (order_in list field down)
is_order list field down = record {
  total = on_total (entry_at list) (sort_order_total field down);
  alone = λ p q e.
      let x = entry_at list p in
      let y = entry_at list q in
      sym (at_path list p) ∙ path_cmp_same x.path y.path (tie (turned down (by_field field) x y) (by_path x y) e) ∙ at_path list q;
}

sorted_on : {X Y : Type 0} (f : X → Y) (cmp : Y → Y → Ordering) (xs : List X) → IsSorted cmp (map f xs) → IsSorted (on f cmp) xs
sorted_on f cmp xs s k d g h =
    sym (λ i. is_lt (cmp (get_or-map f xs (k + 1) d i) (get_or-map f xs k d i))) ∙ s k (f d) g (omega (arith, h, length-map xs f))

paths_rise : (list es : List Entry) (field : Field) (down : Bool) → AreAt list es → IsSorted (sort_order field down) es →
    Rises (order_in list field down) (paths_of es)
paths_rise list es field down h s =
    rises (order_in list field down) (is_order list field down).total (paths_of es)
    (sorted_on (entry_at list) (sort_order field down) (paths_of es) (subst (IsSorted (sort_order field down)) (by_paths list es h) s))

pub sorts_are_unique : SortsAreUnique
sorts_are_unique field down list first second rise p s q t =
    let At : Entry → Type 0 = λ e. e ≡ entry_at list e.path in
    let each = each_at list rise in
    let firsts = moved At list first p each in
    let seconds = moved At list second q each in
    let same : paths_of first ≡ paths_of second =
    same_order (order_in list field down) (is_order list field down) (paths_of first) (paths_of second) (paths_rise list first field down firsts s)
    (paths_rise list second field down seconds t)
    (λ k. omega (
      arith,
      sum_by-map k (λ (e : Entry). e.path) first,
      sum_by-map k (λ (e : Entry). e.path) second,
      sum_by-IsPermutation (λ (e : Entry). k e.path) list first p,
      sum_by-IsPermutation (λ (e : Entry). k e.path) list second q,
    )) in
    by_paths list first firsts ∙ ap (map (entry_at list)) same ∙ sym (by_paths list second seconds)
