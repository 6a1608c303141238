-- Lists that are saved as files. Our own.
use Rattle.std.specs.Prelude.{◌≡◌, ℕ, List, [], ◌∷◌, Option, Some, None, is_some, IfSome, true, false, nat_eq}
use Rattle.std.specs.Cmp.Lexicographic.{pointwise}
use Rattle.std.specs.FinMap.{get, insert}
use Rattle.std.specs.List.{list_any}
use Rattle.outside.specs.Tree.{Files}
use Rattle.outside.specs.Writes.{new_file}
use Rattle.outside.specs.Whole.{can_save}
use Rattle.entry_pages.specs.declared.entries.Entry.{Entry}
use Rattle.flat_list.specs.Spelling.{SpellsAs}
use Rattle.flat_list.specs.declared.versions.Version.TheVariants.{Two}
use Rattle.run_entries.specs.declared.saving.Output.{Output}

-- the output was saved: only its file has changed, and the bytes there are the list file of its entries, in version 2
abbrev pub SavedAt : Output → Option Files → Option Files → Type 0
SavedAt output old new =
    (is_some new ≡ is_some old)
    × IfSome old (λ files. (bytes : List ℕ) × SpellsAs Two bytes output.list × (can_save files output.path ≡ true)
    × (new ≡ Some (insert files output.path (new_file bytes))))

-- the outputs were saved, one after the other
abbrev pub Saved : List Output → Option Files → Option Files → Type 0
Saved [] old new = new ≡ old
Saved (output ∷ outputs) old new = (between : Option Files) × SavedAt output old between × Saved outputs between new

-- the outputs of a run that saves its entries at one path, or nowhere
abbrev pub output_of : Option (List ℕ) → List Entry → List Output
output_of None entries = []
output_of (Some path) entries = record { path = path; list = entries } ∷ []

-- two trees have the same at every path but these
abbrev pub SameButAll : List (List ℕ) → Files → Files → Type 0
SameButAll paths old new = (q : List ℕ) → list_any (pointwise nat_eq q) paths ≡ false → get new q ≡ get old q

-- every path but those that are to be written is as before
abbrev pub SameButOutputs : List (List ℕ) → Option Files → Option Files → Type 0
SameButOutputs [] old new = new ≡ old
SameButOutputs (path ∷ paths) old new = (is_some new ≡ is_some old) × IfSome old (λ files. IfSome new (SameButAll (path ∷ paths) files))
