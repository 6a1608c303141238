-- The entries that a run is about, and what it finds in its files. Our own; the walk is that of mpiFileUtils' dwalk.
use Rattle.std.specs.Prelude.{◌≡◌, ℕ, ◌<◌, ◌≤◌, List, [], ◌++◌, length, Option, Some, None, IfSome, All, true, Bool}
use Rattle.std.specs.FinMap.{get}
use Rattle.std.specs.List.{sum_by, flat_map}
use Rattle.std.specs.List.Sorted.{IsStrictlySortedBy, IsSorted, IsPermutation}
use Rattle.path_text.specs.Order.{path_cmp}
use Rattle.outside.specs.Tree.{IsTree}
use Rattle.outside.specs.Count.{RoseBy}
use Rattle.outside.specs.Whole.{HoldsFile}
use Rattle.entry_pages.specs.declared.entries.Entry.{Entry}
use Rattle.flat_list.specs.declared.ordering.Field.{Field}
use Rattle.flat_list.specs.Orders.{sort_order}
use Rattle.flat_list.specs.Spelling.{IsList, Spells, max_entries}
use Rattle.path_looks.specs.declared.looks.Look.{Look}
use Rattle.path_looks.specs.Looks.{AreLooks}
use Rattle.tool_text.specs.declared.noting.Note.{Note}
use Rattle.tool_text.specs.Notes.{note_lines}
use Rattle.tool_text.specs.NoteOrder.{AreInOrder}
use Rattle.tool_words.specs.Asked.{Origin, roots, input, Choice}
use Rattle.tool_words.specs.declared.commands.Common.{Common}
use Rattle.tree_walk.specs.Walk.{walk, answers_in, weight_of, paths_of}
use Rattle.tree_walk.specs.Roots.{IsRoots, is_in_some}
use Rattle.run_report.specs.Sides.{Side, side_with}
use Rattle.run_entries.specs.declared.accounts.Account.{Account}
use Rattle.run_entries.specs.Choosing.{newer_in, tests_in, chosen_of}
use Rattle.run_entries.specs.Naming.{failures_in}
use Rattle.run_entries.specs.Tells.{IsAccount, told_text}

-- the entries are a walk of the roots of the given paths
pub record Walked (given : List (List ℕ)) (entries : List Entry) (before after : Side) : Type 0 where
  pub roots : List (List ℕ)
  pub are : IsRoots given roots
  -- where the files tell their tree, they are the recursive walks of the roots, with the failed answers that the entries tell
  pub told : IfSome before.tree (λ files. entries ≡ flat_map (walk files (answers_in entries)) roots)
  -- and that is a tree, where something was looked at
  pub valid : 0 < length roots → IfSome before.tree IsTree
  -- over all files each path stands once, in path order, and is a root or under one
  pub ascend : IsStrictlySortedBy path_cmp (paths_of entries)
  pub within : All (λ e. is_in_some roots e.path ≡ true) entries
  -- and the files counted each answer that failed
  pub counted : RoseBy (sum_by weight_of entries) before.count after.count

-- the entries are those of the list file at the path
pub record IsRead (path : List ℕ) (entries : List Entry) (before : Side) : Type 0 where
  -- where the files tell their tree, its bytes spell them
  pub told : IfSome before.tree (λ files. (bytes : List ℕ) × HoldsFile bytes (get files path) × Spells bytes entries)
  -- over all files a list file can tell them
  pub list : IsList entries

-- the entries, by where they come from
abbrev pub Listed : Origin → List Entry → Side → Side → Type 0
Listed (roots given) entries before after = Walked given entries before after
Listed (input path) entries before after = IsRead path entries before

-- what is told of how they were found: of a walk the account of it, from the very roots that were walked, and of a list file nothing
abbrev pub Tells : (common : Common) (start : Origin) (entries : List Entry) (before after : Side) → Listed start entries before after → Account → Type 0
Tells common (roots given) entries before after walked account = IsAccount common before.tree walked.roots entries account
Tells common (input path) entries before after read account = told_text common account ≡ []

-- what was looked at and then listed: first the paths of `--newer`, then what is walked or read
pub record Surveyed (start : Origin) (choice : Option Choice) (before after : Side) (looks : List Look) (entries : List Entry) : Type 0 where
  pub between : ℕ
  pub looked : AreLooks before.tree (newer_in choice) looks before.count between
  pub later : between ≤ after.count
  pub listed : Listed start entries (side_with before.tree between) after
  pub few : length entries ≤ max_entries

-- what a run finds in its files: what it chooses, the notes of all that failed, and what is told of the walk
pub record Finds (common : Common) (start : Origin) (choice : Option Choice) (now : ℕ) (before after : Side) (chosen : List Entry)
    (notes : List Note) (account : Account) : Type 0 where
  pub looks : List Look
  pub entries : List Entry
  pub survey : Surveyed start choice before after looks entries
  pub tells : Tells common start entries (side_with before.tree survey.between) after survey.listed account
  -- it chooses by the tests, and names what failed
  pub chooses : chosen ≡ chosen_of (tests_in choice) looks now entries
  pub names : AreInOrder (failures_in looks entries) notes

-- the entries as they are printed: in path order, or in the order that is asked for
abbrev pub InOrder : Option (Field × Bool) → List Entry → List Entry → Type 0
InOrder None entries printed = printed ≡ entries
InOrder (Some order) entries printed = IsPermutation entries printed × IsSorted (sort_order order.0 order.1) printed

-- what `notes` gets: what is told of the walk, and a line for each failure
abbrev pub notes_text : Common → Account → List Note → List ℕ
notes_text common account notes = told_text common account ++ note_lines notes
