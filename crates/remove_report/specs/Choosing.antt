-- The entries that drm chooses, and their removal. The tool is mpiFileUtils'; the relation is our own.
use Rattle.std.specs.Prelude.{◌≡◌, ℕ, ◌≤◌, Bool, true, false, List, [], map, Some, IfSome, is_some}
use Rattle.std.specs.List.{count_by}
use Rattle.outside.specs.Count.{RoseBy}
use Rattle.outside.specs.Tree.{Files}
use Rattle.entry_pages.specs.declared.entries.Entry.{Entry}
use Rattle.flat_list.specs.Spelling.{paths}
use Rattle.level_work.specs.Counts.{is_failed}
use Rattle.level_work.specs.declared.items.Fate.{Fate}
use Rattle.tree_remove.specs.Laws.{AreWhole}
use Rattle.tree_remove.specs.Removing.{Removed, SameButChosen}
use Rattle.tool_text.specs.declared.noting.Note.{Note}
use Rattle.tool_words.specs.Asked.{RemoveAsked, roots}
use Rattle.run_report.specs.Sides.{Side, side_with}
use Rattle.run_entries.specs.declared.accounts.Account.{Account}
use Rattle.run_entries.specs.Entries.{Finds}

-- it walked the roots, chose entries by the tests, as dfind does, and named the failures. That leaves the tree as it was
pub record Chooses (asked : RemoveAsked) (now : ℕ) (before after : Side) (chosen : List Entry) (named : List Note) : Type 0 where
  pub account : Account
  pub finds : Finds asked.common (roots asked.roots) (Some asked.choice) now before (side_with before.tree after.count) chosen named account

-- it removed the chosen entries, and the count has each answer that failed
pub record Removes (chosen : List Entry) (rows : List (List ℕ × Fate)) (before after : Side) : Type 0 where
  pub paths : map (λ row. row.0) rows ≡ paths chosen
  pub tells : is_some after.tree ≡ is_some before.tree
  pub removed : IfSome before.tree (λ old. IfSome after.tree (Removed rows old))
  pub blamed : RoseBy (count_by (λ row. is_failed row.1) rows) before.count after.count

-- it removed nothing
pub record RemovesNothing (rows : List (List ℕ × Fate)) (before after : Side) : Type 0 where
  pub none : rows ≡ []
  pub same : after.tree ≡ before.tree
  pub kept : before.count ≤ after.count

-- the work on the chosen entries, with `--dryrun` or without
abbrev pub Acts : Bool → List Entry → List (List ℕ × Fate) → Side → Side → Type 0
Acts true chosen rows before after = RemovesNothing rows before after
Acts false chosen rows before after = Removes chosen rows before after

-- every path but those that were chosen is as before
pub record LeavesAllOthers (asked : RemoveAsked) (now : ℕ) (before after : Side) : Type 0 where
  pub found : ℕ
  pub chosen : List Entry
  pub named : List Note
  pub chooses : Chooses asked now before (side_with before.tree found) chosen named
  pub tells : is_some after.tree ≡ is_some before.tree
  pub others : IfSome before.tree (λ old. IfSome after.tree (SameButChosen (paths chosen) old))

-- if a path is chosen, all paths under it are
abbrev pub ChoosesWhole : Files → List Entry → Type 0
ChoosesWhole files chosen = AreWhole files (paths chosen)
