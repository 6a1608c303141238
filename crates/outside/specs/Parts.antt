-- The shape of the nodes of a part, and the laws of leases. Our own.
use Rattle.std.specs.Prelude.{◌≡◌, ℕ, true, false, ◌||◌, List, Some, None, is_some, slice_get, IsTrue}
use Rattle.std.specs.FinMap.{get}
use Rattle.path_text.specs.Order.{is_under}
use Rattle.path_text.specs.Path.{refusal, parent_of, level_of}
use Rattle.outside.specs.Tree.{Files, IsTree, is_dir, is_root}
use Rattle.outside.specs.Writes.{Area, all_but, under, is_top}
use Rattle.outside.specs.Lease.{in_tops, leased, kept, Joins, HaveParents}

-- the nodes of a part: they are at and under its tops, and the parent of each but a top is a directory
pub record IsPart (tops : List (List ℕ)) (files : Files) : Type 0 where
  pub inside : (q : List ℕ) → is_some (get files q) ≡ true → in_tops tops q ≡ true
  pub no_root : (q : List ℕ) → is_some (get files q) ≡ true → is_root q ≡ false
  pub valid : (q : List ℕ) → is_some (get files q) ≡ true → refusal q ≡ None
  pub parents : (q : List ℕ) → is_some (get files q) ≡ true → (is_top (under tops) q || is_dir (get files (parent_of q))) ≡ true

-- a tree of its shape: of a ground a whole one, of a part a part
abbrev pub IsTreeIn : Area → Files → Type 0
IsTreeIn (all_but lent cut) files = IsTree files
IsTreeIn (under tops) files = IsPart tops files

-- tops as a lease takes them: paths of one level, none of them `/`
pub record AreTops (tops : List (List ℕ)) : Type 0 where
  pub valid : (i : ℕ) (x : List ℕ) → slice_get tops i ≡ Some x → refusal x ≡ None
  pub no_root : (i : ℕ) (x : List ℕ) → slice_get tops i ≡ Some x → is_root x ≡ false
  pub one_level : (i j : ℕ) (x y : List ℕ) → slice_get tops i ≡ Some x → slice_get tops j ≡ Some y → level_of x ≡ level_of y

-- a lease leaves a tree and makes a part, and a return makes a tree again
pub record LeasesKeepTrees : Type 0 where
  pub rest : (tops : List (List ℕ)) (files : Files) → AreTops tops → IsTree files → IsTree (kept tops files)
  pub part : (tops : List (List ℕ)) (files : Files) → AreTops tops → IsTree files → IsPart tops (leased tops files)
  pub back : (tops : List (List ℕ)) (own rest after : Files) → AreTops tops → IsPart tops own → IsTree rest → HaveParents tops rest
      → Joins tops own rest after → IsTree after

abbrev pub AreApartTops : List (List ℕ) → List (List ℕ) → Type 0
AreApartTops one two = (q : List ℕ) → in_tops one q ≡ true → in_tops two q ≡ false

-- a map between: the first part is back, and the second was not leased yet
pub record Between (one two : List (List ℕ)) (own own' files last : Files) : Type 0 where
  pub mid : Files
  pub first : Joins one own (kept one files) mid
  pub second : Joins two own' (kept two mid) last
  pub same_part : leased two mid ≡ leased two (kept one files)

-- two parts that are out at once give the same tree as one after the other
abbrev pub LeasesOverlap : Type 0
LeasesOverlap = (one two : List (List ℕ)) (own own' files next last : Files) → AreApartTops one two →
    Joins one own (kept two (kept one files)) next → Joins two own' next last → Between one two own own' files last

-- in a tree each path over a node is a directory
abbrev pub UnderDirectories : Type 0
UnderDirectories = (files : Files) (q p : List ℕ) → IsTree files → refusal p ≡ None → IsTrue (is_under q p) → is_some (get files q) ≡ true
    → is_dir (get files p) ≡ true
