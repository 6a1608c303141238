-- A path moved from one top to another. Our own.
use Rattle.std.specs.Prelude.{◌≡◌, ℕ, List, ◌∷◌, length, drop, if◌then◌else◌, ◌==◌, IsTrue, None}
use Rattle.path_text.specs.Path.{joined, refusal, parent_of}
use Rattle.path_text.specs.Order.{path_cmp, front, is_under, is_within}

-- the path that x, which is within the top, would be if the top were `/`
abbrev pub below_of : List ℕ → List ℕ → List ℕ
below_of x top = 47 ∷ drop (length (front top)) x

-- the names of the path `rest` after those of the top
abbrev pub grafted : List ℕ → List ℕ → List ℕ
grafted top rest = if length rest == 1 then top else joined top (drop 1 rest)

-- a path that is moved below a top, and then on that top, is itself again
abbrev pub GraftUndoesBelow : Type 0
GraftUndoesBelow = (x top : List ℕ) → IsTrue (is_within x top) → grafted top (below_of x top) ≡ x

-- a path that was moved to a top is within it, and taking the top off gives it back
pub record BelowUndoesGraft : Type 0 where
  pub within : (top rest : List ℕ) → refusal rest ≡ None → IsTrue (is_within (grafted top rest) top)
  pub back : (top rest : List ℕ) → refusal rest ≡ None → below_of (grafted top rest) top ≡ rest

-- paths within one top have the order that they have below it
abbrev pub BelowKeepsOrder : Type 0
BelowKeepsOrder = (x y top : List ℕ) → IsTrue (is_within x top) → IsTrue (is_within y top) → path_cmp (below_of x top) (below_of y top) ≡ path_cmp x y

-- a path under a source has its parent within the source, and moves to a target together with its parent
pub record ParentMovesToo : Type 0 where
  pub within : (path source : List ℕ) → refusal path ≡ None → refusal source ≡ None → IsTrue (is_under path source) →
      IsTrue (is_within (parent_of path) source)
  pub moved : (path source target : List ℕ) → refusal path ≡ None → refusal source ≡ None → refusal target ≡ None → IsTrue (is_under path source) →
      parent_of (grafted target (below_of path source)) ≡ grafted target (below_of (parent_of path) source)
