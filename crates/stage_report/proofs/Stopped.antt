-- No step but the last tells that a stage stopped.
use Rattle.stage_report.proofs.Prelude.{◌≡◌, inl, inr, ◌⊎◌, ℕ, List, length, Entry, ListsError, Side, side_with, stop_of_lists, StopsReading, StopsWriting}
use Rattle.stage_report.proofs.Prelude.{WroteNoRanks, WroteNoList, StoppedStagesAreKept}
use Rattle.circle_lists.specs.declared.errors.ListsError.TheVariants as error
use Rattle.run_report.specs.declared.stops.Stop.TheVariants as stop

-- no error of the ranks' files does
by_ranks : (e : ListsError) (handled left : ℕ) → stop.Stopped handled left ≡ stop_of_lists e → ⊥
by_ranks (error.Failed path) handled left told = cc
by_ranks error.OutOfMemory handled left told = cc
by_ranks (error.Damaged path line) handled left told = cc
by_ranks (error.NoFile path) handled left told = cc
by_ranks (error.NoPlace path) handled left told = cc

-- the reading of a checkpoint does not
by_reading : (dir : List ℕ) (before after : Side) (handled left : ℕ) → StopsReading dir before after (stop.Stopped handled left) → ⊥
by_reading dir before after handled left (inl memory) = cc
by_reading dir before after handled left (inr (inl long)) = cc (long.told)
by_reading dir before after handled left (inr (inr (inl list))) = list.stops
by_reading dir before after handled left (inr (inr (inr (inl ranks)))) = by_ranks ranks.error handled left ranks.told
by_reading dir before after handled left (inr (inr (inr (inr misplaced)))) = cc (misplaced.tells.told)

-- nor does the writing
by_torn : (dir : List ℕ) (ranks : ℕ) (done : List Entry) (before after : Side) (handled left : ℕ) →
    WroteNoRanks dir ranks before after (stop.Stopped handled left) ⊎ WroteNoList dir ranks done before after (stop.Stopped handled left) → ⊥
by_torn dir ranks done before after handled left (inl none) = by_ranks none.error handled left none.told
by_torn dir ranks done before after handled left (inr list) = list.stops.stops

by_writing : (dir : List ℕ) (ranks : ℕ) (done : List Entry) (before after : Side) (handled left : ℕ) →
    StopsWriting dir ranks done before after (stop.Stopped handled left) → ⊥
by_writing dir ranks done before after handled left (inl memory) = cc
by_writing dir ranks done before after handled left (inr (inl long)) = cc (long.told)
by_writing dir ranks done before after handled left (inr (inr (inl old))) = cc (old.told)
by_writing dir ranks done before after handled left (inr (inr (inr torn))) =
    by_torn dir ranks done torn.between after handled left torn.stops

pub stopped_are_kept : StoppedStagesAreKept
stopped_are_kept asked before after handled left (inl memory) = cc
stopped_are_kept asked before after handled left (inr (inl unread)) = absurd (by_reading asked.lists before after handled left unread.stops)
stopped_are_kept asked before after handled left (inr (inr (inl long))) = cc (long.named)
stopped_are_kept asked before after handled left (inr (inr (inr (inl unsaved)))) = absurd unsaved.stops.stops
stopped_are_kept asked before after handled left (inr (inr (inr (inr (inl unkept))))) =
    absurd
    (by_writing asked.lists (length unkept.was.left) unkept.was.list (side_with before.tree unkept.was.found) after handled left unkept.stops)
stopped_are_kept asked before after handled left (inr (inr (inr (inr (inr kept))))) = kept
