-- A walk that is cut, and goes on. The checkpoint is libcircle's (LaFon, Misra and Bringhurst, On Distributed File Tree Walk of
-- Parallel File Systems, SC 2012). All ranks stop, the strings that wait are left, and another run goes on with them. The entries
-- beside them, and the meaning of both together, are our own.
use Rattle.std.specs.Prelude.{◌≡◌, ◌⊎◌, ℕ, ◌<◌, true, false, List, ◌++◌, map, length, Option, is_some, IfSome, None, All}
use Rattle.std.specs.List.{sum_by}
use Rattle.std.specs.List.Sorted.{IsStrictlySortedBy, IsSortedByKey, IsPermutation}
use Rattle.std.specs.FinMap.{get}
use Rattle.path_text.specs.Path.{refusal}
use Rattle.path_text.specs.Order.{path_cmp}
use Rattle.outside.specs.Tree.{Files, IsTree}
use Rattle.outside.specs.Count.{RoseBy}
use Rattle.entry_pages.specs.declared.entries.Entry.{Entry}
use Rattle.entry_pages.specs.Entries.{is_shaped}
use Rattle.circle_run.specs.Balance.{Log, Balanced}
use Rattle.tree_walk.specs.declared.reports.Cut.{Cut}
use Rattle.tree_walk.specs.declared.reports.Walked.{Walked}
use Rattle.tree_walk.specs.declared.reports.Walked.TheVariants as walked
use Rattle.tree_walk.specs.Walk.{answer_in, entry_of, children_of, weight_of, paths_of}
use Rattle.tree_walk.specs.Roots.{is_in_some, Apart}
use Rattle.flat_list.specs.Spelling.{max_entries}
use Rattle.tree_walk.specs.Found.{IsWalkOf, FoundTooMany}

-- the log that done entries are: their paths, each with those that the recursive walk goes on with, by the answer that the entry tells
abbrev pub log_by : Files → List Entry → Log
log_by files done = map (λ e. (e.path, children_of (answer_in e) files e.path)) done

-- a cut of the walk of the starts: entries that are done, and strings that are left
pub record IsCut (files : Files) (starts : List (List ℕ)) (done : List Entry) (left : List (List ℕ)) : Type 0 where
  -- each done entry is the one that the recursive walk gives its path, by the answer that it tells
  pub own : All (λ e. e ≡ entry_of (answer_in e) (get files e.path) e.path) done
  -- the done paths and the left strings are, as often, the starts and the children of the done entries
  pub balance : Balanced (log_by files done) left starts

-- a cut walk of the starts found these entries, over files that may tell a tree. Their count of faults went from old to new
pub record IsCutFound (tree : Option Files) (starts : List (List ℕ)) (old new : ℕ) (done : List Entry) (left : List (List ℕ)) : Type 0 where
  -- over files that tell their tree it is a cut of the recursive walk
  pub told : IfSome tree (λ files. IsCut files starts done left)
  -- and that is a tree, where something was looked at
  pub valid : 0 < length done → IfSome tree IsTree
  -- over all files each done path comes once, in path order
  pub ascend : IsStrictlySortedBy path_cmp (paths_of done)
  -- no left string is equal to or under another, and nothing done is equal to or under one: so they all differ
  pub apart : Apart left
  pub beside : All (λ e. is_in_some left e.path ≡ false) done
  -- each done path and each left string is a start or under one
  pub within : All (λ path. is_in_some starts path ≡ true) (paths_of done ++ left)
  -- each entry has the shape that its mark asks for
  pub shaped : All (λ e. is_shaped e ≡ true) done
  -- and the failed answers that the entries tell were counted
  pub counted : RoseBy (sum_by weight_of done) old new

-- the found entries: the list of a whole walk, or the done entries of one that was cut
abbrev pub found_in : Walked → List Entry → List Entry
found_in walked.Whole list = list
found_in (walked.Cut cut) list = cut.done

-- a statement holds of a cut, if there is one
abbrev pub IfCut : Walked → (Cut → Type 0) → Type 0
IfCut walked.Whole P = Unit {0}
IfCut (walked.Cut cut) P = P cut

-- the done part of a walk that was cut has n entries, more than a list may have
pub record IsTooMuchDone (tree : Option Files) (starts : List (List ℕ)) (old new n : ℕ) : Type 0 where
  pub done : List Entry
  pub left : List (List ℕ)
  pub found : IsCutFound tree starts old new done left
  pub number : n ≡ length done
  pub above : max_entries < n

-- a walk found n entries, more than a list may have: a whole one, or, with a stop, one that was cut
abbrev pub IsTooMany : (stop : Option ℕ) (tree : Option Files) (starts : List (List ℕ)) (old new n : ℕ) → Type 0
IsTooMany stop tree starts old new n = FoundTooMany tree starts old new n ⊎ ((is_some stop ≡ true) × IsTooMuchDone tree starts old new n)

-- done entries and entries found later, together in path order
pub record IsJoined (done later list : List Entry) : Type 0 where
  pub all : IsPermutation (done ++ later) list
  pub sorted : IsSortedByKey (λ e. e.path) path_cmp list

-- a restart goes on: the done entries of a cut, with a walk of its left strings, are a walk of its starts
abbrev pub RestartIsWalk : Type 0
RestartIsWalk = (files : Files) (starts left : List (List ℕ)) (done later list : List Entry) → IsTree files →
    All (λ start. refusal start ≡ None) starts → Apart starts →
    IsCut files starts done left → IsWalkOf files later left → IsJoined done later list → IsWalkOf files list starts

-- and is cut again: the done entries of a cut, with those of a cut of its left strings, are a cut of its starts
abbrev pub CutGoesOn : Type 0
CutGoesOn = (files : Files) (starts left left' : List (List ℕ)) (done done' list : List Entry) →
    IsCut files starts done left → IsCut files left done' left' → IsPermutation (done ++ done') list → IsCut files starts list left'

-- so it may be: no left string of a cut is equal to or under another, nor is anything done equal to or under one
abbrev pub LeftIsApart : Type 0
LeftIsApart = (files : Files) (starts left : List (List ℕ)) (done : List Entry) → IsTree files → Apart starts →
    IsCut files starts done left → Apart left × All (λ e. is_in_some left e.path ≡ false) done
