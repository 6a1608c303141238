-- What is left of sorted paths, where each that is the last one kept is dropped, are the paths, each once.
use Rattle.path_looks.proofs.Prelude.{◌≡◌, ℕ, true, List, sym, subst, eqb, All, Contains, dedup, IsSorted, IsStrictlySortedBy, IsPermutation, pointwise}
use Rattle.path_looks.proofs.Prelude.{bytes_decides, nat_list_eq_equiv, All-contains_itself, All-dedup, Contains-dedup, IsStrictlySortedBy-dedup}
use Rattle.path_looks.proofs.Prelude.{IsPermutation-sym, All-permutation, path_cmp, path_cmp_total, path_cmp_ties}

same_path : (x y : List ℕ) → pointwise eqb x y ≡ true → x ≡ y
same_path x y = (bytes_decides x y).0

pub once : (sorted each : List (List ℕ)) → IsSorted path_cmp sorted → each ≡ dedup (pointwise eqb) sorted → IsStrictlySortedBy path_cmp each
once sorted each s e = subst (IsStrictlySortedBy path_cmp) (sym e) (IsStrictlySortedBy-dedup path_cmp_total path_cmp_ties sorted s)

pub every : (given sorted each : List (List ℕ)) → IsPermutation given sorted → each ≡ dedup (pointwise eqb) sorted → All (Contains each) given
every given sorted each p e =
    let left = dedup (pointwise eqb) sorted in
    let kept : All (Contains left) sorted = λ k d l. Contains-dedup nat_list_eq_equiv same_path sorted _ (All-contains_itself sorted k d l) in
    subst (λ ys. All (Contains ys) given) (sym e) (All-permutation (Contains left) sorted given (IsPermutation-sym given sorted p) kept)

pub none_else : (given sorted each : List (List ℕ)) → IsPermutation given sorted → each ≡ dedup (pointwise eqb) sorted → All (Contains given) each
none_else given sorted each p e =
    let there = All-permutation (Contains given) given sorted p (All-contains_itself given) in
    subst (All (Contains given)) (sym e) (All-dedup (pointwise eqb) (Contains given) sorted there)
