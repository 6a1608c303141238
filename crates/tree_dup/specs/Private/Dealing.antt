-- The files of a run, dealt out by their standings. Our own.
-- Only clauses of this crate's own functions cite this file.
use Rattle.std.specs.Prelude.{◌≡◌, ℕ, List, [], ◌∷◌, ◌++◌, map, filter}
use Rattle.tree_dup.specs.Told.{Grouping}
use Rattle.tree_cmp.specs.declared.reading.Missing.{Missing}
use Rattle.tree_cmp.specs.declared.reading.Missing.TheVariants as m
use Rattle.tree_dup.specs.declared.runs.File.{File}
use Rattle.tree_dup.specs.Private.Running.{is_alike, is_other, is_failed, is_changed, still, paths_of}

-- one more file was missed
abbrev pub with_missed : Missing → List ℕ → Grouping → Grouping
with_missed m.Failed p found = record found { failed = found.failed ++ p ∷ [] }
with_missed m.Changed p found = record found { changed = found.changed ++ p ∷ [] }

-- the files of a run go to the paths of a group, to the others, or to the missed
pub record AreDealt (run : List File) (paths : List (List ℕ)) (left : List File) (found found' : Grouping) : Type 0 where
  pub alike : paths ≡ paths_of (filter is_alike run)
  pub others : left ≡ map still (filter is_other run)
  pub failed : found'.failed ≡ found.failed ++ paths_of (filter is_failed run)
  pub changed : found'.changed ≡ found.changed ++ paths_of (filter is_changed run)
  pub groups : found'.groups ≡ found.groups
