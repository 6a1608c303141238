-- Readers that share the rows whose files are to be read. Our own.
-- Only clauses of this crate's own functions cite this file.
use Rattle.std.specs.Prelude.{◌≡◌, ℕ, true, List, Option, Some, None, is_some, IfSome, slice_index_or}
use Rattle.std.specs.List.{sum_by}
use Rattle.std.specs.FinMap.{get}
use Rattle.path_text.specs.Graft.{grafted}
use Rattle.outside.specs.Asked.{Asks}
use Rattle.outside.specs.Tree.{Files}
use Rattle.tree_cmp.specs.declared.drafts.Draft.{Draft}
use Rattle.tree_cmp.specs.declared.reading.Outcome.{Outcome}
use Rattle.tree_cmp.specs.Filling.{IsFileOf}
use Rattle.tree_cmp.specs.Private.Reading.{Told, Shows, counts}

-- what reading the two files of a path below two tops comes to, over files that may tell their tree
abbrev pub ToldAt : Option Files → List ℕ → List ℕ → List ℕ → ℕ → Outcome → Type 0
ToldAt tree left right path size o = IfSome tree (λ files.
    IsFileOf (get files (grafted left path)) size → IsFileOf (get files (grafted right path)) size →
    Told (get files (grafted left path)) (get files (grafted right path)) o)

-- an outcome is of a row whose files are to be read, and is what reading them comes to
pub record IsOf {S : Type 0} (gives : Asks S) (tree : Option Files) (left right path : List ℕ) (bytes : Option ℕ) (o : Outcome) : Type 0 where
  pub unread : is_some bytes ≡ true
  pub told : IfSome bytes (λ size. ToldAt tree left right path size o)
  pub shows : Shows gives (grafted left path) (grafted right path) o

-- what is known of a row before all are read
abbrev pub IsSoFar : {S : Type 0} → Asks S → Option Files → List ℕ → List ℕ → Draft → Type 0
IsSoFar gives tree left right d = IfSome d.outcome (IsOf gives tree left right d.row.path d.unread)

-- and afterwards
pub record IsSettled {S : Type 0} (gives : Asks S) (tree : Option Files) (left right : List ℕ) (d : Draft) : Type 0 where
  pub all : is_some d.unread ≡ is_some d.outcome
  pub own : IsSoFar gives tree left right d

-- a row as it was before its files were read
abbrev pub unsettled : Draft → Draft
unsettled d = record d { outcome = None }

-- how many faults a row's outcome was counted for
abbrev pub some_counts : Option Outcome → ℕ
some_counts None = 0
some_counts (Some o) = counts o

abbrev pub blames : List Draft → ℕ
blames drafts = sum_by (λ d. some_counts d.outcome) drafts

-- an outcome is of the row at a place
abbrev pub IsOfRow : {S : Type 0} → Asks S → Option Files → List ℕ → List ℕ → List Draft → ℕ → Outcome → Type 0
IsOfRow gives tree left right drafts place o =
    (d : Draft) → IsOf gives tree left right (slice_index_or drafts place d).row.path (slice_index_or drafts place d).unread o
