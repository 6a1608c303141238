-- Facts of each element of a list, and lists that ascend.
use Rattle.tree_walk.proofs.Prelude.{◌≡◌, List, [], ◌∷◌, ◌++◌, map, refl, AllByRecursion, flat_map, Ordering, Less, all_weaker, all_join}
use Rattle.std.specs.List.Sorted.{IsStrictlySortedBy}

pub all_parts : {X : Type 0} (P : X → Type 0) (xs ys : List X) → AllByRecursion P (xs ++ ys) → AllByRecursion P xs × AllByRecursion P ys
all_parts P [] ys h = (tt, h)
all_parts P (x ∷ xs) ys h = let r = all_parts P xs ys h.1 in ((h.0, r.0), r.1)

pub all_map : {X Y : Type 0} (P : Y → Type 0) (f : X → Y) (xs : List X) → AllByRecursion (λ x. P (f x)) xs → AllByRecursion P (map f xs)
all_map P f [] h = h
all_map P f (x ∷ xs) h = (h.0, all_map P f xs h.1)

pub all_flat : {X Y : Type 0} (P : Y → Type 0) (f : X → List Y) (xs : List X) → AllByRecursion (λ x. AllByRecursion P (f x)) xs →
    AllByRecursion P (flat_map f xs)
all_flat P f [] h = h
all_flat P f (x ∷ xs) h = all_join P (f x) (flat_map f xs) h.0 (all_flat P f xs h.1)

pub flat_same : {X Y : Type 0} (f g : X → List Y) (xs : List X) → AllByRecursion (λ x. f x ≡ g x) xs → flat_map f xs ≡ flat_map g xs
flat_same f g [] h = refl
flat_same f g (x ∷ xs) h = λ i. h.0 i ++ flat_same f g xs h.1 i

pub sorted_append : {X : Type 0} (cmp : X → X → Ordering) (xs ys : List X) → IsStrictlySortedBy cmp xs → IsStrictlySortedBy cmp ys →
    AllByRecursion (λ x. AllByRecursion (λ y. cmp x y ≡ Less) ys) xs → IsStrictlySortedBy cmp (xs ++ ys)
unfolding IsStrictlySortedBy
sorted_append cmp [] ys s t h = t
sorted_append cmp (x ∷ xs) ys s t h = (all_join (λ y. cmp x y ≡ Less) xs ys s.0 h.0, sorted_append cmp xs ys s.1 t h.1)

pub swapped : {X Y : Type 0} (R : X → Y → Type 0) (xs : List X) (ys : List Y) → AllByRecursion (λ x. AllByRecursion (R x) ys) xs →
    AllByRecursion (λ y. AllByRecursion (λ x. R x y) xs) ys
swapped R xs [] h = tt
swapped R xs (y ∷ ys) h = (
  all_weaker (λ x. AllByRecursion (R x) (y ∷ ys)) (λ x. R x y) (λ x r. r.0) xs h,
  swapped R xs ys (all_weaker (λ x. AllByRecursion (R x) (y ∷ ys)) (λ x. AllByRecursion (R x) ys) (λ x r. r.1) xs h),
)

pub both : {X : Type 0} (P Q : X → Type 0) (xs : List X) → AllByRecursion P xs → AllByRecursion Q xs → AllByRecursion (λ x. P x × Q x) xs
both P Q [] h g = tt
both P Q (x ∷ xs) h g = ((h.0, g.0), both P Q xs h.1 g.1)
