-- The facts that the steps of dsync hand on. Only clauses of this crate's own functions cite this file.
use Rattle.std.specs.Prelude.{⊤, ◌≡◌, Bool, true, false, List, [], ◌∷◌, Option, None, IfSome, All, Ok, Err}
use Rattle.std.specs.FinMap.{get}
use Rattle.path_text.specs.Path.{parent_of, refusal}
use Rattle.outside.specs.Count.{RoseBy}
use Rattle.outside.specs.Tree.{Files, IsTree, is_dir}
use Rattle.entry_pages.specs.declared.entries.Entry.{Entry}
use Rattle.entry_pages.specs.Entries.{is_shaped}
use Rattle.tree_cmp.specs.Sides.{side}
use Rattle.tree_copy.specs.Placing.{overlap}
use Rattle.tree_copy.specs.declared.pairs.Pair.{Pair}
use Rattle.tree_copy.specs.declared.pairs.PlaceError.{PlaceError}
use Rattle.tree_copy.specs.declared.pairs.PlaceError.TheVariants as place
use Rattle.tree_sync.specs.Laws.{IsWhole, is_under_some, named}
use Rattle.tree_sync.specs.Results.{Results}
use Rattle.tree_sync.specs.Syncing.{CanSync, FitsSync, is_there}
use Rattle.run_report.specs.Sides.{Side}
use Rattle.sync_report.specs.Placing.{Places}
use Rattle.sync_report.specs.Syncing.{AreEqualBut}

-- the facts of the pair that the walks of both sides need
pub record IsPlaced (pair : Pair) (tree : Option Files) : Type 0 where
  pub places : Places pair tree (Ok tt)
  pub from : refusal pair.source ≡ None
  pub to : refusal pair.target ≡ None
  pub apart : overlap (pair.source ∷ pair.target ∷ []) ≡ false
  pub stand : IfSome tree (λ files. is_dir (get files (parent_of pair.target)) ≡ true)

-- why it was not placed
abbrev pub StopsPlacing : Pair → Side → Side → PlaceError → Type 0
StopsPlacing pair before after place.Overlap = Places pair before.tree (Err place.Overlap)
StopsPlacing pair before after place.NoDest = Places pair before.tree (Err place.NoDest)
StopsPlacing pair before after (place.Failed path) = (path ≡ parent_of pair.target) × RoseBy 1 before.count after.count
StopsPlacing pair before after place.OutOfMemory = ⊤

-- the lists of both walks have every path of the tree but those that they note
pub record AreWhole (pair : Pair) (source dest : List Entry) (files : Files) : Type 0 where
  pub tree : IsTree files
  pub left : IsWhole (side pair.source source) files
  pub right : IsWhole (side pair.target dest) files

-- the facts of the lists of both walks that a sync needs, and those that its law and the notes need
pub record IsReady (pair : Pair) (source dest : List Entry) (tree : Option Files) : Type 0 where
  pub from : refusal pair.source ≡ None
  pub to : refusal pair.target ≡ None
  pub can : CanSync pair source dest
  pub fits : IfSome tree (FitsSync pair source dest)
  pub whole : IfSome tree (AreWhole pair source dest)
  pub source_shaped : All (λ e. is_shaped e ≡ true) source
  pub dest_shaped : All (λ e. is_shaped e ≡ true) dest

-- both trees are equal then but for the paths that the lists and the results name
abbrev pub MakesEqual : Pair → (source dest : List Entry) → Bool → Results → Option Files → Type 0
MakesEqual pair source dest delete done tree =
    IfSome tree (λ files. is_there (side pair.source source) ≡ true →
    AreEqualBut (is_under_some (named pair source dest done)) pair delete files)
