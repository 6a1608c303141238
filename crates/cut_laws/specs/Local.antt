-- Walks and cuts in trees that are the same at and under the starts. The restart is libcircle's (LaFon, Misra and Bringhurst, On
-- Distributed File Tree Walk of Parallel File Systems, SC 2012); the laws of it are our own.
use Rattle.std.specs.Prelude.{◌≡◌, ℕ, true, List, None, All}
use Rattle.std.specs.List.{sum_by}
use Rattle.std.specs.FinMap.{get}
use Rattle.path_text.specs.Path.{refusal}
use Rattle.outside.specs.Tree.{Files, IsTree}
use Rattle.entry_pages.specs.declared.entries.Entry.{Entry}
use Rattle.tree_walk.specs.Walk.{weight_of}
use Rattle.tree_walk.specs.Roots.{is_in_some, Apart}
use Rattle.tree_walk.specs.Found.{IsWalkOf}
use Rattle.tree_walk.specs.Cut.{IsCut, IsJoined}

-- two trees have the same nodes at and under these paths
abbrev pub SameBelow : List (List ℕ) → Files → Files → Type 0
SameBelow starts old new = (q : List ℕ) → is_in_some starts q ≡ true → get new q ≡ get old q

-- so they have the same cuts
abbrev pub CutsAreLocal : Type 0
CutsAreLocal = (old new : Files) (starts left : List (List ℕ)) (done : List Entry) → IsTree old → SameBelow starts old new →
    IsCut old starts done left → IsCut new starts done left

-- and the same walks
abbrev pub WalksAreLocal : Type 0
WalksAreLocal = (old new : Files) (starts : List (List ℕ)) (list : List Entry) → SameBelow starts old new → IsWalkOf old list starts →
    IsWalkOf new list starts

-- so the done entries in one tree, with a walk of the left strings in another, are a walk of the starts in each
abbrev pub RestartIsWalkInEach : Type 0
RestartIsWalkInEach = (stopped again other : Files) (starts left : List (List ℕ)) (done later list : List Entry) → IsTree stopped →
    All (λ start. refusal start ≡ None) starts → Apart starts → SameBelow starts stopped again → SameBelow starts stopped other →
    IsCut stopped starts done left → IsWalkOf again later left → IsJoined done later list → IsWalkOf other list starts

-- if no answer failed, a walk of starts that are apart finds one list
abbrev pub FineWalksAreOne : Type 0
FineWalksAreOne = (files : Files) (starts : List (List ℕ)) (list other : List Entry) → Apart starts → IsWalkOf files list starts →
    IsWalkOf files other starts → sum_by weight_of list ≡ 0 → sum_by weight_of other ≡ 0 → list ≡ other

-- and a restart finds the same list as the walk that was not cut
abbrev pub RestartFindsTheWalk : Type 0
RestartFindsTheWalk = (stopped again other : Files) (starts left : List (List ℕ)) (done later list whole : List Entry) → IsTree stopped →
    All (λ start. refusal start ≡ None) starts → Apart starts → SameBelow starts stopped again → SameBelow starts stopped other →
    IsCut stopped starts done left → IsWalkOf again later left → IsJoined done later list → IsWalkOf other whole starts →
    sum_by weight_of done ≡ 0 → sum_by weight_of later ≡ 0 → sum_by weight_of whole ≡ 0 → list ≡ whole
