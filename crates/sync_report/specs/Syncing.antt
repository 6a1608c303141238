-- The work of dsync: its report, the reasons to stop, the paths that it may have changed, and when nothing is in its way. The tool is
-- mpiFileUtils'; the texts, notes and statuses are our own.
use Rattle.std.specs.Prelude.{◌≡◌, ◌⊎◌, ℕ, ◌+◌, ◌≤◌, Bool, true, false, not, ◌&&◌, List, [], ◌∷◌, ◌++◌, length, filter, nat_eq, All, Ok, Option, IfSome}
use Rattle.std.specs.Prelude.{Some, is_some}
use Rattle.std.specs.FinMap.{get}
use Rattle.std.specs.List.{count_by, list_any}
use Rattle.std.specs.Cmp.Lexicographic.{pointwise}
use Rattle.path_text.specs.Order.{is_within}
use Rattle.path_text.specs.Path.{parent_of}
use Rattle.outside.specs.Count.{RoseBy}
use Rattle.outside.specs.Tree.{Files}
use Rattle.outside.specs.declared.trees.Kind.TheVariants as kind
use Rattle.entry_pages.specs.declared.entries.Entry.{Entry}
use Rattle.entry_pages.specs.Entries.{is_of}
use Rattle.flat_list.specs.Spelling.{max_entries}
use Rattle.level_work.specs.Counts.{is_failed, is_done}
use Rattle.tree_cmp.specs.Rows.{Findings, IsComparison}
use Rattle.tree_cmp.specs.Sides.{side}
use Rattle.tree_copy.specs.Copying.{clashes, target_of}
use Rattle.tree_copy.specs.declared.pairs.Pair.{Pair}
use Rattle.tree_sync.specs.Laws.{AgreesAfter, below_top}
use Rattle.tree_sync.specs.Placing.{sync_placed_over}
use Rattle.tree_sync.specs.Results.{Results}
use Rattle.tree_sync.specs.Syncing.{SameOutside, Synced, is_there}
use Rattle.tree_walk.specs.Walk.{walk, all_told}
use Rattle.tool_text.specs.declared.noting.Note.{Note}
use Rattle.tool_text.specs.declared.noting.Why.{Why}
use Rattle.tool_text.specs.declared.noting.Why.TheVariants as why
use Rattle.tool_text.specs.declared.syncing.SyncCounts.{SyncCounts}
use Rattle.tool_text.specs.Notes.{note_lines}
use Rattle.tool_text.specs.NoteOrder.{AreInOrder}
use Rattle.tool_text.specs.Synced.{synced_line}
use Rattle.tool_words.specs.Asked.{SyncAsked, roots}
use Rattle.run_report.specs.declared.reports.Report.{Report}
use Rattle.run_report.specs.declared.stops.Stop.{Stop}
use Rattle.run_report.specs.declared.stops.Stop.TheVariants as stop
use Rattle.run_report.specs.Sides.{Side, side_with}
use Rattle.run_entries.specs.Fine.{IsFineSide}
use Rattle.run_entries.specs.Naming.{copy_notes, listing_notes, path_notes, removal_notes}
use Rattle.sync_report.specs.declared.task.SyncTask.{SyncTask}
use Rattle.sync_report.specs.Placing.{IsNowhere, StopsAfterLook, Surveys}

-- the request of a task
abbrev pub sync_asked : SyncTask → SyncAsked
sync_asked task = record { common = task.common; source = task.source; dest = task.dest; delete = task.delete }

-- the source, and the destination that is made equal to it
abbrev pub pair_of : SyncAsked → Pair
pair_of asked = record { source = asked.source; target = asked.dest }

-- ---- the notes

abbrev pub says_gone : Why → Bool
says_gone why.Gone = true
says_gone _ = false

-- the note says that nothing is at the path
abbrev pub says_absent : List ℕ → Note → Bool
says_absent path note = says_gone note.why && pointwise nat_eq note.path path

-- the notes of the entries of a walk. The two sides share no path, so no note says that it is of the destination
abbrev pub entry_notes : List Entry → List Note
entry_notes entries = listing_notes (record { entries = entries; dest = false })

-- those of the destination's walk, in which nothing need be there
abbrev pub dest_notes : List ℕ → List Entry → List Note
dest_notes dest entries = filter (λ n. not (says_absent dest n)) (entry_notes entries)

-- the notes of all failures: the entries of both walks, the files that could not be read, and the fates of copies and removals
abbrev pub sync_failures : Pair → (source dest : List Entry) → Results → List Note
sync_failures pair source dest done =
    entry_notes source ++ dest_notes pair.target dest
    ++ path_notes why.FailedRead done.failed ++ path_notes why.Changed done.changed
    ++ copy_notes done.copies ++ removal_notes done.removals

-- ---- its report

-- it was synced by the lists of both, and no answer that failed is left uncounted
pub record Syncs (pair : Pair) (source dest : List Entry) (delete : Bool) (done : Results) (before after : Side) : Type 0 where
  pub synced : Synced pair source dest delete done before.tree after.tree
  pub blamed : RoseBy (length done.failed + count_by (λ row. is_failed row.1) done.removals + count_by (λ row. is_failed row.1) done.copies)
      before.count after.count

-- both trees are equal but for the excepted paths below the source and the destination. This is so of each row of a comparison of the
-- walks of both in which no answer fails
abbrev pub AreEqualBut : (List ℕ → Bool) → Pair → Bool → Files → Type 0
AreEqualBut is_excepted pair delete files =
    (found : Findings) →
    IsComparison (Some files) (side pair.source (walk files all_told pair.source)) (side pair.target (walk files all_told pair.target)) found →
    All (λ row. is_excepted row.path ≡ false → AgreesAfter delete row) found.rows

-- the path is, or is under, that of a note
abbrev pub is_named : Pair → List Note → List ℕ → Bool
is_named pair notes p = list_any (λ n. is_within p (below_top pair n.path)) notes

-- the numbers that it prints
abbrev pub counts_of : Results → ℕ → SyncCounts
counts_of done failed = record {
  copied = count_by (λ row. is_done row.1) done.copies;
  removed = count_by (λ row. is_done row.1) done.removals;
  kept = done.kept;
  failed = failed;
}

-- its report if the pair was placed: the kept, removed and copied entries, the line of the numbers, and the notes
pub record ReportsSynced (asked : SyncAsked) (before after : Side) (report : Report) : Type 0 where
  pub source : List Entry
  pub dest : List Entry
  pub walked : ℕ
  pub surveys : Surveys (pair_of asked) before (side_with before.tree walked) source dest
  pub done : Results
  pub syncs : Syncs (pair_of asked) source dest asked.delete done (side_with before.tree walked) after
  pub notes : List Note
  pub names : AreInOrder (sync_failures (pair_of asked) source dest done) notes
  pub prints : report.out ≡ synced_line (counts_of done (length notes))
  pub tells : report.notes ≡ note_lines notes
  pub counts : report.failed ≡ length notes
  -- if the files tell their tree and the source has a stat, both trees are equal then but for the paths of the notes
  pub equal : IfSome after.tree (λ files. is_there (side asked.source source) ≡ true →
      AreEqualBut (is_named (pair_of asked) notes) (pair_of asked) asked.delete files)

-- and if it was not, since the look at the destination's parent failed: nothing was walked, kept, removed or copied
pub record ReportsFailedLook (asked : SyncAsked) (before after : Side) (report : Report) : Type 0 where
  pub same : after.tree ≡ before.tree
  pub blamed : RoseBy 1 before.count after.count
  pub prints : report.out ≡ synced_line (record { copied = 0; removed = 0; kept = 0; failed = 1 })
  pub tells : report.notes ≡ note_lines (record { path = parent_of asked.dest; why = why.FailedStat; dest = false } ∷ [])
  pub counts : report.failed ≡ 1

abbrev pub ReportsSync : SyncAsked → Side → Side → Report → Type 0
ReportsSync asked before after report = ReportsFailedLook asked before after report ⊎ ReportsSynced asked before after report

-- why it stops: it is out of memory; or the source goes nowhere, or a walk was too long, and the files are as before
abbrev pub StopsSync : SyncAsked → Side → Side → Stop → Type 0
StopsSync asked before after why =
    (why ≡ stop.OutOfMemory)
    ⊎ ((IsNowhere (pair_of asked) before.tree why ⊎ StopsAfterLook (pair_of asked) before after why) × (after.tree ≡ before.tree))

-- the paths that it may have changed: those at and under the destination, and no other. This holds whatever it answers
abbrev pub LeavesSync : SyncAsked → Option Files → Option Files → Type 0
LeavesSync asked old new = (is_some new ≡ is_some old) × IfSome old (λ before. IfSome new (SameOutside asked.dest before))

-- ---- when nothing stands against it

-- a walk of the destination gives no notes, or nothing is there: no directory has a child with too long a path, and the walk is no
-- longer than a list may be
pub record IsFineDest (files : Files) (dest : List ℕ) : Type 0 where
  pub near : All (λ e. e.far ≡ 0) (walk files all_told dest)
  pub few : length (walk files all_told dest) ≤ max_entries

-- an entry of the source that can be copied: it is not of the kind other, and its path in the destination is not too long. If nothing
-- is to be removed, no entry of another kind is there
pub record IsFineEntry (pair : Pair) (delete : Bool) (files : Files) (e : Entry) : Type 0 where
  pub kind : is_of kind.Other e.stat ≡ false
  pub short : length (target_of (pair ∷ []) e.path) ≤ 4095
  pub free : delete ≡ false → clashes e.stat (get files (target_of (pair ∷ []) e.path)) ≡ false

-- both sides are fine, the source is there, it can be synced to the destination, and each entry of it can be copied
pub record FineSync (asked : SyncAsked) (before after : Side) : Type 0 where
  pub side : IsFineSide (roots (asked.source ∷ [])) before after
  pub dest : IsFineDest side.files asked.dest
  pub placed : sync_placed_over side.files asked.source asked.dest ≡ Ok tt
  pub entries : All (IsFineEntry (pair_of asked) asked.delete side.files) (walk side.files all_told asked.source)
