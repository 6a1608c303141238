-- How files are divided by a lease and joined again, and where they may be written meanwhile. Our own.
use Rattle.std.specs.Prelude.{◌≡◌, ℕ, Bool, true, false, not, List, [], ◌∷◌, ◌++◌, if◌then◌else◌, nat_eq, IsTrue, Some, slice_get}
use Rattle.std.specs.List.{list_any}
use Rattle.std.specs.FinMap.{get, retain_keys}
use Rattle.std.specs.Cmp.Lexicographic.{pointwise}
use Rattle.path_text.specs.Order.{is_within}
use Rattle.path_text.specs.Path.{level_of, parent_of}
use Rattle.outside.specs.Tree.{Files, is_dir}
use Rattle.outside.specs.Writes.{Area, all_but, under, is_open}

-- the path is one of the tops, or under one
abbrev pub in_tops : List (List ℕ) → List ℕ → Bool
in_tops tops path = list_any (is_within path) tops

-- the nodes that a part gets, and those that its ground keeps
abbrev pub leased : List (List ℕ) → Files → Files
leased tops files = retain_keys files (in_tops tops)

abbrev pub kept : List (List ℕ) → Files → Files
kept tops files = retain_keys files (λ q. not (in_tops tops q))

-- the two joined: the nodes of the part at and under the tops, and everywhere else those that the ground kept
abbrev pub Joins : List (List ℕ) → Files → Files → Files → Type 0
Joins tops own rest after = (q : List ℕ) → get after q ≡ (if in_tops tops q then get own q else get rest q)

-- tops that can be leased: distinct, of one level, not `/`, in the area
pub record CanLease (area : Area) (tops : List (List ℕ)) : Type 0 where
  pub distinct : (i j : ℕ) (x : List ℕ) → slice_get tops i ≡ Some x → slice_get tops j ≡ Some x → i ≡ j
  pub one_level : (i j : ℕ) (x y : List ℕ) → slice_get tops i ≡ Some x → slice_get tops j ≡ Some y → level_of x ≡ level_of y
  pub are_open : (i : ℕ) (x : List ℕ) → slice_get tops i ≡ Some x → IsTrue (is_open area x)

-- the parent of each top is a directory
abbrev pub HaveParents : List (List ℕ) → Files → Type 0
HaveParents tops files = (i : ℕ) (x : List ℕ) → slice_get tops i ≡ Some x → is_dir (get files (parent_of x)) ≡ true

-- the area of a ground once the tops are leased, after those that are out
abbrev pub area_without : List (List ℕ) → Area → Area
area_without tops (all_but lent cut) = all_but (lent ++ tops ∷ []) cut
area_without tops (under own) = under own

abbrev pub same_tops : List (List ℕ) → List (List ℕ) → Bool
same_tops = pointwise (pointwise nat_eq)

-- without the first list that is these tops
abbrev pub without_tops : List (List ℕ) → List (List (List ℕ)) → List (List (List ℕ))
without_tops tops [] = []
without_tops tops (one ∷ out) = if same_tops one tops then out else one ∷ without_tops tops out

-- the area of a ground once a part is back
abbrev pub area_with : List (List ℕ) → Area → Area
area_with tops (all_but lent cut) = all_but (without_tops tops lent) cut
area_with tops (under own) = under own

abbrev pub tops_of : Area → List (List ℕ)
tops_of (all_but lent cut) = []
tops_of (under tops) = tops

-- a part with this area is out of a ground with that one
abbrev pub is_out : Area → Area → Bool
is_out (under tops) (all_but lent cut) = list_any (λ one. same_tops one tops) lent
is_out (under tops) (under own) = false
is_out (all_but lent cut) area = false
