-- When a stage succeeds.
use Rattle.stage_report.proofs.Prelude.{◌≡◌, inl, inr, ◌⊎◌, ℕ, ◌≤◌, true, length, ap, ◌∙◌, sym, subst, arith, is_some, All, StoodStill, AreInOrder}
use Rattle.stage_report.proofs.Prelude.{NothingToOrder, StageAsked, WithinStage, WalkWithoutFaultsIsFine, RootsAreUnique, IsTooMany, Report, Stop, Side}
use Rattle.stage_report.proofs.Prelude.{side_with, FinePlacesStopForMemory, output_of, checkpoint_paths, CheckpointsAreOne, FineReadsStopForMemory}
use Rattle.stage_report.proofs.Prelude.{FineWritesStopForMemory, IsFree, Begun, kept_paths, FindsTooMany, ReportsStage, StopsBeginning, StopsSavingStage}
use Rattle.stage_report.proofs.Prelude.{StopsKeeping, StopsStage, IsFineBeginning, FineStage, FineStageSucceeds, has_place}
use Rattle.run_report.specs.declared.stops.Stop.TheVariants as stop
use Rattle.stage_report.proofs.Printing.{stood_within}
use Rattle.stage_report.proofs.Fine.{IsFineBegun, most_of, begun_fine, found_fine, cut_few, joined_fine, joined_few, no_failures}

-- the laws that this rests on
pub record Laws : Type 0 where
  pub one_roots : RootsAreUnique
  pub one_kept : CheckpointsAreOne
  pub walks : WalkWithoutFaultsIsFine
  pub reads : FineReadsStopForMemory
  pub writes : FineWritesStopForMemory
  pub places : FinePlacesStopForMemory
  pub notes : NothingToOrder

-- a stage against which nothing stands, within its limits
record IsFineStage (asked : StageAsked) (before after : Side) : Type 0 where
  laws : Laws
  within : WithinStage asked
  fine : FineStage asked before after

begun : {asked : StageAsked} {before after : Side} (s : IsFineStage asked before after) (b : Begun asked before) → IsFineBegun s.fine.files b.done b.starts
begun {asked} {before} s b =
    begun_fine s.laws.one_roots s.laws.one_kept asked.starts asked.lists before s.fine.files b.done b.starts s.within.starts s.fine.told s.fine.begins b.begins

-- no fault was counted while it walked
still : {asked : StageAsked} {before after : Side} (s : IsFineStage asked before after) (b : Begun asked before) (found : ℕ) → b.count ≤ found →
    found ≤ after.count → StoodStill b.count found
still {asked} {before} {after} s b found from to = stood_within before.count b.count found after.count b.kept from to s.fine.stood

-- nor after that
after_still : {asked : StageAsked} {before after : Side} (s : IsFineStage asked before after) (b : Begun asked before) (found : ℕ) → b.count ≤ found →
    found ≤ after.count → StoodStill found after.count
after_still {asked} {before} {after} s b found from to =
    stood_within before.count found after.count after.count (omega (arith, b.kept, from)) to (omega arith) s.fine.stood

-- ---- it names nothing

names_nothing : {asked : StageAsked} {before after : Side} (s : IsFineStage asked before after) (report : Report) → ReportsStage asked before after report →
    report.failed ≡ 0
names_nothing {asked} {before} {after} s report r =
    let b = begun s r.was.begun in
    let f = r.was.finished in
    let is = found_fine s.laws.walks s.fine.files r.was.begun.done r.was.begun.starts before.tree r.was.begun.count r.was.found f.later s.fine.told b f.walked
    (still s r.was.begun r.was.found f.walked.counted.kept r.was.later) in
    let all = joined_fine r.was.begun.done f.later r.was.list f.joined b.fine is.fine in
    r.counts ∙ ap length (s.laws.notes.none r.notes (subst (λ given. AreInOrder given r.notes) (no_failures r.was.list all) r.names))

-- ---- it is not too long

too_many : {asked : StageAsked} {before after : Side} (s : IsFineStage asked before after) (b : Begun asked before) (n : ℕ) →
    IsTooMany asked.stop_after before.tree b.starts b.count after.count n → ⊥
too_many {asked} {before} {after} s b n (inl whole) =
    let is = found_fine s.laws.walks s.fine.files b.done b.starts before.tree b.count after.count whole.list s.fine.told (begun s b) whole.found
    (still s b after.count whole.found.counted.kept (omega arith)) in
    absurd (omega (arith, whole.number, whole.above, is.few, (begun s b).few))
too_many {asked} {before} {after} s b n (inr cut) =
    let c = cut.1 in
    let few = cut_few s.fine.files b.done b.starts before.tree b.count after.count c.done c.left s.fine.told (begun s b) c.found
    (still s b after.count c.found.counted.kept (omega arith)) in
    absurd (omega (arith, c.number, c.above, few, (begun s b).few))

too_long : {asked : StageAsked} {before after : Side} (s : IsFineStage asked before after) (b : Begun asked before) →
    FindsTooMany asked.stop_after asked.common before.tree b.done b.starts b.count after.count → ⊥
too_long s b (inl many) = too_many s b many.0 many.1
too_long {asked} {before} {after} s b (inr (list, many, inl (account, f))) =
    let is = found_fine s.laws.walks s.fine.files b.done b.starts before.tree b.count after.count f.later s.fine.told (begun s b) f.walked
    (still s b after.count f.walked.counted.kept (omega arith)) in
    joined_few b.done f.later list (most_of (begun s b)) f.joined (begun s b).few is.few many
too_long {asked} {before} {after} s b (inr (list, many, inr (handled, left, c))) =
    let few = cut_few s.fine.files b.done b.starts before.tree b.count after.count c.later _ s.fine.told (begun s b) c.cut
    (still s b after.count c.cut.counted.kept (omega arith)) in
    joined_few b.done c.later list (most_of (begun s b)) c.joined (begun s b).few few many

-- ---- it stops for want of memory alone, or since it was to stop

no_beginning : {asked : StageAsked} {before after : Side} (s : IsFineStage asked before after) (why : Stop) → StopsBeginning asked before after why →
    why ≡ stop.OutOfMemory
no_beginning {asked} {before} {after} s why b =
    let f = subst (λ starts. IsFineBeginning s.fine.files starts asked.lists) b.goes_on s.fine.begins in
    s.laws.reads asked.lists f.done f.left s.fine.files before after why s.fine.told s.fine.stood f.kept b.stops

no_saving : {asked : StageAsked} {before after : Side} (s : IsFineStage asked before after) (why : Stop) → StopsSavingStage asked before after why →
    why ≡ stop.OutOfMemory
no_saving {asked} {before} {after} s why b =
    s.laws.places (output_of asked.output b.was.list) s.fine.files (side_with before.tree b.was.found) after why s.fine.told
    (has_place s.fine.files asked.output b.was.list s.fine.place) (after_still s b.was.begun b.was.found b.was.finished.walked.counted.kept b.was.later) b.stops

no_keeping : {asked : StageAsked} {before after : Side} (s : IsFineStage asked before after) (why : Stop) → StopsKeeping asked before after why →
    why ≡ stop.OutOfMemory
no_keeping {asked} {before} {after} s why b =
    let room = subst (λ n. All (IsFree s.fine.files) (kept_paths n asked.lists asked.common.ranks)) b.was.cut.is_most s.fine.room in
    let places = subst (λ n. All (IsFree s.fine.files) (checkpoint_paths asked.lists n)) (sym b.was.cut.ranks) room in
    s.laws.writes asked.lists (length b.was.left) b.was.list s.fine.files (side_with before.tree b.was.found) after why s.within.lists
    (omega (arith, b.was.cut.ranks, s.within.common.ranks.1)) s.fine.told
    (after_still s b.was.begun b.was.found b.was.cut.cut.counted.kept b.was.later) places b.stops

abbrev InTime : StageAsked → Stop → Type 0
InTime asked why = (why ≡ stop.OutOfMemory) ⊎ ((is_some asked.stop_after ≡ true) × ((handled left : ℕ) × (why ≡ stop.Stopped handled left)))

in_time : {asked : StageAsked} {before after : Side} (s : IsFineStage asked before after) (why : Stop) → StopsStage asked before after why → InTime asked why
in_time s why (inl is) = inl is
in_time s why (inr (inl b)) = inl (no_beginning s why b)
in_time s why (inr (inr (inl b))) = absurd (too_long s b.begun b.many)
in_time s why (inr (inr (inr (inl b)))) = inl (no_saving s why b)
in_time s why (inr (inr (inr (inr (inl b))))) = inl (no_keeping s why b)
in_time s why (inr (inr (inr (inr (inr b))))) = inr (ap is_some b.was.cut.is_most, (b.was.handled, _, b.named))

pub stage_succeeds : Laws → FineStageSucceeds
stage_succeeds laws asked before after within fine =
    let s : IsFineStage asked before after = record { laws = laws; within = within; fine = fine } in
    record { names_nothing = names_nothing s; stops_in_time = in_time s }
