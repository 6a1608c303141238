-- A dwalk in stages, each of which may stop and leave a checkpoint, from which the next goes on. Its report, the reasons to stop, the
-- paths that it may have changed, and when nothing is in its way. The checkpoint is libcircle's (LaFon et al., SC 2012), and dwalk is
-- mpiFileUtils'; the texts and statuses are our own.
use Rattle.std.specs.Prelude.{◌≡◌, ◌⊎◌, ℕ, ◌+◌, ◌-◌, ◌^◌, ◌<◌, ◌≤◌, List, [], ◌++◌, min, length, Option, Some, None, IfSome, All, Any, true}
use Rattle.std.specs.Option.{option_map, option_to_list}
use Rattle.std.specs.List.{sum_by, flat_map}
use Rattle.outside.specs.Tree.{Files}
use Rattle.outside.specs.Count.{StoodStill}
use Rattle.outside.specs.Whole.{can_save}
use Rattle.entry_pages.specs.declared.entries.Entry.{Entry}
use Rattle.entry_pages.specs.declared.entries.Mark.TheVariants as mark
use Rattle.circle_run.specs.declared.outcomes.Share.{Share}
use Rattle.tool_text.specs.Lines.{lines_of}
use Rattle.tool_text.specs.declared.noting.Note.{Note}
use Rattle.tool_text.specs.NoteOrder.{AreInOrder}
use Rattle.tool_words.specs.Asked.{StageAsked}
use Rattle.tool_words.specs.declared.commands.Common.{Common}
use Rattle.tree_walk.specs.Walk.{walk, all_told}
use Rattle.tree_walk.specs.Roots.{IsRoots}
use Rattle.flat_list.specs.Spelling.{max_entries}
use Rattle.tree_walk.specs.Found.{IsFound}
use Rattle.tree_walk.specs.Cut.{IsCutFound, IsTooMany, IsJoined}
use Rattle.tree_walk.specs.Traced.{IsProgressTo}
use Rattle.run_report.specs.declared.reports.Report.{Report}
use Rattle.run_report.specs.declared.stops.Stop.{Stop}
use Rattle.run_report.specs.declared.stops.Stop.TheVariants as stop
use Rattle.run_report.specs.Sides.{Side, side_with}
use Rattle.run_entries.specs.declared.accounts.Account.{Account}
use Rattle.run_entries.specs.Entries.{InOrder, notes_text}
use Rattle.run_entries.specs.Fine.{IsFineWalk}
use Rattle.run_entries.specs.Naming.{failures_in}
use Rattle.run_entries.specs.Saving.{Saved, output_of, SameButAll, SameButOutputs}
use Rattle.run_entries.specs.Stopping.{StopsSaving}
use Rattle.run_entries.specs.Tells.{IsAccount}
use Rattle.checkpoints.specs.Kept.{IsKept, IsCheckpoint, checkpoint_paths}
use Rattle.checkpoints.specs.Stopping.{StopsReading, StopsWriting}
use Rattle.checkpoints.specs.Laws.{IsFineKept, IsFree}
use Rattle.list_report.specs.Lists.{summary_text}
use Rattle.stage_report.specs.declared.task.StageTask.{StageTask}

-- the request of a task
abbrev pub stage_asked : StageTask → StageAsked
stage_asked task = record {
  common = task.common;
  starts = option_map (λ paths. paths.items) task.starts;
  stop_after = task.stop_after;
  lists = task.lists;
  sort = task.sort;
  output = task.output;
}

-- ---- how a stage begins and walks

-- the strings that all ranks left
abbrev pub all_of : List (List (List ℕ)) → List (List ℕ)
all_of lists = flat_map (λ list. list) lists

-- the done entries when it begins, and the paths that it walks. For given paths no entry is done, and it walks their roots. Or both
-- come from the checkpoint in the directory
abbrev pub Begins : Option (List (List ℕ)) → List ℕ → Side → List Entry → List (List ℕ) → Type 0
Begins (Some given) dir before done starts = (done ≡ []) × IsRoots given starts
Begins None dir before done starts = (left : List (List (List ℕ))) × IsCheckpoint dir before done left × (starts ≡ all_of left)

-- a stage that has begun: with these entries done, these paths to walk, and this count of faults
pub record Begun (asked : StageAsked) (before : Side) : Type 0 where
  pub done : List Entry
  pub starts : List (List ℕ)
  pub count : ℕ
  pub begins : Begins asked.starts asked.lists before done starts
  pub kept : before.count ≤ count

-- ---- the account of its ranks

-- of a walk that might have stopped: no trace is kept, and no rank handles more than its number
pub record IsStoppable (common : Common) (most : ℕ) (later : List Entry) (account : Account) : Type 0 where
  pub untraced : account.events.items ≡ []
  pub by_rank : length account.shares.items ≡ common.ranks
  pub handled : sum_by (λ s. s.handled) account.shares.items ≡ length later
  pub bound : All (λ s. s.handled ≤ most) account.shares.items
  pub moved : min (sum_by (λ s. s.given) account.shares.items) (2 ^ 128 - 1) ≡ min (sum_by (λ s. s.taken) account.shares.items) (2 ^ 128 - 1)
  pub progress : IsProgressTo (length later) common.ranks account.sums.items

-- it is that of the paths which this stage walked
abbrev pub TellsStage : Option ℕ → Common → Option Files → List (List ℕ) → List Entry → Account → Type 0
TellsStage None common tree starts later account = IsAccount common tree starts later account
TellsStage (Some most) common tree starts later account = IsStoppable common most later account

-- ---- how it ends

-- it walked to the end: the found entries, with those that were done before, are the list
pub record IsFinished (stop : Option ℕ) (common : Common) (tree : Option Files) (done : List Entry) (starts : List (List ℕ)) (old new : ℕ)
    (list : List Entry) (account : Account) : Type 0 where
  pub later : List Entry
  pub walked : IsFound tree starts old new later
  pub joined : IsJoined done later list
  pub told : TellsStage stop common tree starts later account

-- it was cut, since some rank had handled as many paths as the stop says, and none more. The found entries, with those that were done
-- before, are the list, and each rank left its strings
pub record IsCutOff (stop : Option ℕ) (common : Common) (tree : Option Files) (done : List Entry) (starts : List (List ℕ)) (old new handled : ℕ)
    (list : List Entry) (left : List (List (List ℕ))) : Type 0 where
  pub later : List Entry
  pub cut : IsCutFound tree starts old new later (all_of left)
  pub joined : IsJoined done later list
  pub number : handled ≡ length later
  pub ranks : length left ≡ common.ranks
  pub some_left : 0 < length (all_of left)
  pub most : ℕ
  pub is_most : stop ≡ Some most
  pub shares : List Share
  pub by_rank : length shares ≡ common.ranks
  pub each : sum_by (λ s. s.handled) shares ≡ handled
  pub reached : Any (λ s. s.handled ≡ most) shares
  pub bound : All (λ s. s.handled ≤ most) shares

-- ---- its report

-- it was whole: it walked to the end, and found the list by this count of faults
pub record WasWhole (asked : StageAsked) (before after : Side) : Type 0 where
  pub begun : Begun asked before
  pub found : ℕ
  pub list : List Entry
  pub account : Account
  pub finished : IsFinished asked.stop_after asked.common before.tree begun.done begun.starts begun.count found list account
  pub few : length list ≤ max_entries
  pub later : found ≤ after.count

-- it was cut: these are the done entries, and the strings that the ranks left
pub record WasCut (asked : StageAsked) (before after : Side) : Type 0 where
  pub begun : Begun asked before
  pub found : ℕ
  pub handled : ℕ
  pub list : List Entry
  pub left : List (List (List ℕ))
  pub cut : IsCutOff asked.stop_after asked.common before.tree begun.done begun.starts begun.count found handled list left
  pub few : length list ≤ max_entries
  pub later : found ≤ after.count

-- a list that is whole: it was saved where that is asked for, and the two texts are those of a dwalk
pub record ReportsStage (asked : StageAsked) (before after : Side) (report : Report) : Type 0 where
  pub was : WasWhole asked before after
  pub saved : Saved (output_of asked.output was.list) before.tree after.tree
  pub notes : List Note
  pub names : AreInOrder (failures_in [] was.list) notes
  pub printed : List Entry
  pub order : InOrder asked.sort was.list printed
  pub prints : report.out ≡ lines_of printed ++ summary_text was.list (length notes)
  pub tells : report.notes ≡ notes_text asked.common was.account notes
  pub counts : report.failed ≡ length notes

-- ---- why it stops

-- the checkpoint was not read
pub record StopsBeginning (asked : StageAsked) (before after : Side) (why : Stop) : Type 0 where
  pub goes_on : asked.starts ≡ None
  pub stops : StopsReading asked.lists before after why
  pub same : after.tree ≡ before.tree

-- its walk found more entries than a list may have, or with those done before they are more
abbrev pub FindsTooMany : Option ℕ → Common → Option Files → List Entry → List (List ℕ) → ℕ → ℕ → Type 0
FindsTooMany stop common tree done starts old new =
    ((n : ℕ) × IsTooMany stop tree starts old new n)
    ⊎ ((list : List Entry) × (max_entries < length list) × (((account : Account) × IsFinished stop common tree done starts old new list account)
    ⊎ ((handled : ℕ) × (left : List (List (List ℕ))) × IsCutOff stop common tree done starts old new handled list left)))

pub record StageIsTooLong (asked : StageAsked) (before after : Side) (why : Stop) : Type 0 where
  pub begun : Begun asked before
  pub many : FindsTooMany asked.stop_after asked.common before.tree begun.done begun.starts begun.count after.count
  pub named : why ≡ stop.TooMany
  pub same : after.tree ≡ before.tree

-- a list that is whole was not saved
pub record StopsSavingStage (asked : StageAsked) (before after : Side) (why : Stop) : Type 0 where
  pub was : WasWhole asked before after
  pub stops : StopsSaving (output_of asked.output was.list) (side_with before.tree was.found) after why

-- the checkpoint of a walk that was cut was not written
pub record StopsKeeping (asked : StageAsked) (before after : Side) (why : Stop) : Type 0 where
  pub was : WasCut asked before after
  pub stops : StopsWriting asked.lists (length was.left) was.list (side_with before.tree was.found) after why

-- it was written: all done entries and all left strings. The line counts the strings and the paths that this stage handled
pub record IsStopped (asked : StageAsked) (before after : Side) (why : Stop) : Type 0 where
  pub was : WasCut asked before after
  pub kept : IfSome after.tree (IsKept asked.lists was.list was.left)
  -- and nothing else was, the file of the list neither
  pub rest : IfSome before.tree (λ files. IfSome after.tree (SameButAll (checkpoint_paths asked.lists asked.common.ranks) files))
  pub named : why ≡ stop.Stopped was.handled (length (all_of was.left))

-- for want of memory, or for the first of these that comes
abbrev pub StopsStage : StageAsked → Side → Side → Stop → Type 0
StopsStage asked before after why =
    (why ≡ stop.OutOfMemory)
    ⊎ (StopsBeginning asked before after why
    ⊎ (StageIsTooLong asked before after why
    ⊎ (StopsSavingStage asked before after why
    ⊎ (StopsKeeping asked before after why
    ⊎ IsStopped asked before after why))))

-- ---- the paths that it may have changed

-- the files of a checkpoint, where it may stop
abbrev pub kept_paths : Option ℕ → List ℕ → ℕ → List (List ℕ)
kept_paths None dir ranks = []
kept_paths (Some most) dir ranks = checkpoint_paths dir ranks

-- those and the file to which the list is to be written, and no other
abbrev pub LeavesStage : StageAsked → Option Files → Option Files → Type 0
LeavesStage asked old new = SameButOutputs (option_to_list asked.output ++ kept_paths asked.stop_after asked.lists asked.common.ranks) old new

-- ---- when nothing is in its way

-- a checkpoint gives no notes: all done entries are fine, so is a walk of the left strings, and both together are no more than a
-- list may have
pub record IsFineCheckpoint (files : Files) (dir : List ℕ) : Type 0 where
  pub done : List Entry
  pub left : List (List (List ℕ))
  pub kept : IsFineKept dir done left files
  pub fine : All (λ e. (e.mark ≡ mark.Fine) × (e.unnamed ≡ 0) × (e.far ≡ 0)) done
  pub ahead : IsFineWalk files (all_of left)
  pub few : length done + length (flat_map (walk files all_told) ahead.roots) ≤ max_entries

abbrev pub IsFineBeginning : Files → Option (List (List ℕ)) → List ℕ → Type 0
IsFineBeginning files (Some given) dir = IsFineWalk files given
IsFineBeginning files None dir = IsFineCheckpoint files dir

-- the side is fine, no fault is counted, and there is a place for each list that may be written
pub record FineStage (asked : StageAsked) (before after : Side) : Type 0 where
  pub files : Files
  pub told : before.tree ≡ Some files
  pub stood : StoodStill before.count after.count
  pub begins : IsFineBeginning files asked.starts asked.lists
  pub place : IfSome asked.output (λ path. can_save files path ≡ true)
  pub room : All (IsFree files) (kept_paths asked.stop_after asked.lists asked.common.ranks)
