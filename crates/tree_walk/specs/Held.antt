-- The entries that a job of a walk holds, each with the paths that were pushed for it. After the process step of libcircle's walk
-- (SC 2012); the form is our own.
use Rattle.std.specs.Prelude.{◌≡◌, ◌≤◌, ℕ, Bool, true, ◌&&◌, List, [], ◌∷◌, map, length, drop, if◌then◌else◌, Option, IfSome}
use Rattle.std.specs.List.{AllByRecursion, sum_by}
use Rattle.std.specs.FinMap.{get}
use Rattle.path_text.specs.Path.{joined}
use Rattle.outside.specs.Tree.{Files, IsTree, AreNames}
use Rattle.outside.specs.Count.{RoseBy}
use Rattle.outside.specs.declared.listings.Listing.{Listing}
use Rattle.outside.specs.declared.trees.Kind.TheVariants as kind
use Rattle.entry_pages.specs.declared.entries.Entry.{Entry}
use Rattle.entry_pages.specs.Entries.{is_of, is_fine, is_shaped}
use Rattle.circle_run.specs.Balance.{Log}
use Rattle.tree_walk.specs.Walk.{answer_in, entry_of, children_of, weight_of}

-- an entry, and the paths that were pushed for it
abbrev pub Held : Type 0
Held = Entry × List (List ℕ)

abbrev pub entries_of : List Held → List Entry
entries_of held = map (λ h. h.0) held

-- the log that entries and their paths are
abbrev pub log_of : List Held → Log
log_of held = map (λ h. (h.0.path, h.1)) held

-- the pushed paths are children, each once, names in byte order
pub record IsPush (h : Held) : Type 0 where
  pub names : List (List ℕ)
  pub are : AreNames h.0.path names
  pub is : h.1 ≡ map (joined h.0.path) names

-- the entry and the pushed paths are those of the files, by the answer that the entry tells
pub record IsDone (files : Files) (h : Held) : Type 0 where
  pub valid : IsTree files
  pub short : length h.0.path ≤ 4095
  pub entry : h.0 ≡ entry_of (answer_in h.0) (get files h.0.path) h.0.path
  pub children : h.1 ≡ children_of (answer_in h.0) files h.0.path

-- the invariant of all that a job holds, over a reader that may tell a tree and has this many faults
pub record Holds (tree : Option Files) (count : ℕ) (held : List Held) : Type 0 where
  pub pushes : AllByRecursion IsPush held
  pub done : IfSome tree (λ files. AllByRecursion (IsDone files) held)
  pub shaped : AllByRecursion (λ h. is_shaped h.0 ≡ true) held
  pub faults : RoseBy (sum_by weight_of (entries_of held)) 0 count

-- whether names are kept for an entry: it is a directory that was listed
abbrev pub is_listed : Entry → Bool
is_listed e = is_of kind.Dir e.stat && is_fine e.mark

abbrev pub first_names : List Listing → List (List ℕ)
first_names [] = []
first_names (l ∷ ls) = l.0

-- the entries, each with the paths of the names that were kept for it
abbrev pub held_of : List Entry → List Listing → List Held
held_of [] ls = []
held_of (e ∷ es) ls = (e, if is_listed e then map (joined e.path) (first_names ls) else []) ∷ held_of es (if is_listed e then drop 1 ls else ls)
