-- The roots of given paths, at which a walk begins. Our own.
use Rattle.std.specs.Prelude.{ℕ, ◌≤◌, Bool, true, ◌≡◌, List, All, None, nat_eq}
use Rattle.std.specs.List.{starts_with, list_any, count_by, Contains}
use Rattle.std.specs.List.Sorted.{IsStrictlySortedBy}
use Rattle.path_text.specs.Path.{refusal}
use Rattle.path_text.specs.Order.{path_cmp, front}

-- x is the path p or under it: the common front of the paths under x begins with the common front of those under p
abbrev pub is_in : List ℕ → List ℕ → Bool
is_in x p = starts_with nat_eq (front x) (front p)

-- x is one of the paths, or is under one
abbrev pub is_in_some : List (List ℕ) → List ℕ → Bool
is_in_some paths x = list_any (is_in x) paths

-- none of the paths is equal to or under another: nothing is equal to or under two of them
abbrev pub Apart : List (List ℕ) → Type 0
Apart paths = (x : List ℕ) → count_by (is_in x) paths ≤ 1

-- the roots of the given paths: some of them, in path order and apart, that all the given ones are equal to or under
pub record IsRoots (given roots : List (List ℕ)) : Type 0 where
  pub among : All (Contains given) roots
  pub ascend : IsStrictlySortedBy path_cmp roots
  pub apart : Apart roots
  pub cover : All (λ path. is_in_some roots path ≡ true) given

-- two lists that are both the roots of the same valid paths are the same list
abbrev pub RootsAreUnique : Type 0
RootsAreUnique = (given roots others : List (List ℕ)) → All (λ path. refusal path ≡ None) given → IsRoots given roots → IsRoots given others → roots ≡ others
