-- The roots of given paths are unique.
use Rattle.tree_walk.proofs.Prelude.{◌≡◌, inl, inr, ⊎_elim, ℕ, true, List, [], ◌∷◌, None, refl, ◌∙◌, sym, subst, AllByRecursion, Contains, Less}
use Rattle.tree_walk.proofs.Prelude.{recursion_from_All, refusal, path_cmp, path_cmp_total, is_in, is_in_some, IsRoots, RootsAreUnique, irreflexive}
use Rattle.std.specs.List.Sorted.{IsStrictlySortedBy}
use Rattle.tree_walk.proofs.Inside.{in_itself, in_trans, in_both_ways}
use Rattle.tree_walk.proofs.Standing.{In, in_list, of_all, Above, above, only}

-- ---- two lists in order that hold the same paths

-- the paths behind x in path order
abbrev Behind : List ℕ → List (List ℕ) → Type 0
Behind x xs = AllByRecursion (λ y. path_cmp x y ≡ Less) xs

first_is : (x y : List ℕ) (xs ys : List (List ℕ)) → Behind x xs → Behind y ys → In x (y ∷ ys) → In y (x ∷ xs) → x ≡ y
first_is x y xs ys s t i j =
    ⊎_elim (λ e. e)
    (λ k. ⊎_elim (λ e. sym e)
    (λ l.
    let less : path_cmp x y ≡ Less = of_all (λ z. path_cmp x z ≡ Less) xs y s l in
    let more : path_cmp y x ≡ Less = of_all (λ z. path_cmp y z ≡ Less) ys x t k in
    absurd (irreflexive x (path_cmp_total.trans x y x less more))) j) i

behind_first : (x y z : List ℕ) (ys : List (List ℕ)) → x ≡ y → path_cmp x z ≡ Less → In z (y ∷ ys) → In z ys
behind_first x y z ys e l i = ⊎_elim (λ d. absurd (irreflexive x (subst (λ w. path_cmp x w ≡ Less) (d ∙ sym e) l))) (λ j. j) i

same_sorted : (xs ys : List (List ℕ)) → IsStrictlySortedBy path_cmp xs → IsStrictlySortedBy path_cmp ys →
    ((z : List ℕ) → In z xs → In z ys) → ((z : List ℕ) → In z ys → In z xs) → xs ≡ ys
unfolding IsStrictlySortedBy
same_sorted [] [] s t h g = refl
same_sorted [] (y ∷ ys) s t h g = absurd (g y (inl refl))
same_sorted (x ∷ xs) [] s t h g = absurd (h x (inl refl))
same_sorted (x ∷ xs) (y ∷ ys) s t h g =
    let first = first_is x y xs ys s.0 t.0 (h x (inl refl)) (g y (inl refl)) in
    let rest =
    same_sorted xs ys s.1 t.1
    (λ z i. behind_first x y z ys first (of_all (λ w. path_cmp x w ≡ Less) xs z s.0 i) (h z (inr i)))
    (λ z i. behind_first y x z xs (sym first) (of_all (λ w. path_cmp y w ≡ Less) ys z t.0 i) (g z (inr i)))
    in
    λ i. first i ∷ rest i

-- ---- roots

-- two lists that are the roots of the same valid paths
record BothRoots (given roots others : List (List ℕ)) : Type 0 where
  valid : AllByRecursion (λ path. refusal path ≡ None) given
  are : IsRoots given roots
  too : IsRoots given others

is_given : (given roots : List (List ℕ)) (x : List ℕ) → IsRoots given roots → In x roots → In x given
is_given given roots x are i =
    in_list given x (of_all (Contains given) roots x (recursion_from_All (Contains given) roots are.among) i)

covered : (given roots : List (List ℕ)) (x : List ℕ) → IsRoots given roots → In x given → Above x roots
covered given roots x are i =
    let InSome : List ℕ → Type 0 = λ path. is_in_some roots path ≡ true in
    above x roots (of_all InSome given x (recursion_from_All InSome given are.cover) i)

-- a root x is in one of the others, and that one is in a root, which then is x
stands_too : (given roots others : List (List ℕ)) → BothRoots given roots others → (x : List ℕ) → In x roots → In x others
stands_too given roots others b x i =
    let x_given = is_given given roots x b.are i in
    let o = covered given others x b.too x_given in
    let o_given = is_given given others o.path b.too o.stands in
    let r = covered given roots o.path b.are o_given in
    let same : x ≡ r.path = only x x r.path roots (b.are.apart x) i r.stands (in_itself x) (in_trans x o.path r.path o.is r.is) in
    let back : is_in o.path x ≡ true = subst (λ p. is_in o.path p ≡ true) (sym same) r.is in
    let valid = of_all (λ path. refusal path ≡ None) given in
    let one : x ≡ o.path = in_both_ways x o.path (valid x b.valid x_given) (valid o.path b.valid o_given) o.is back in
    subst (λ p. In p others) (sym one) o.stands

pub roots_are_unique : RootsAreUnique
roots_are_unique given roots others valid are too =
    let each = recursion_from_All (λ path. refusal path ≡ None) given valid in
    same_sorted roots others are.ascend too.ascend
    (stands_too given roots others (record { valid = each; are = are; too = too }))
    (stands_too given others roots (record { valid = each; are = too; too = are }))
