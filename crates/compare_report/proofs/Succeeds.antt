-- When dcmp succeeds.
use Rattle.compare_report.proofs.Prelude.{◌≡◌, ⊎_elim, ℕ, ◌≤◌, true, false, List, [], ◌∷◌, ◌++◌, length, IfSome, refl, ap, subst, arith, ◌∙◌, All}
use Rattle.compare_report.proofs.Prelude.{AllByRecursion, All-from_recursion, recursion_from_All, RoseBy, StoodStill, Files, can_save, Entry, Missed, Row}
use Rattle.compare_report.proofs.Prelude.{AreInOrder, NothingToOrder, Want, CompareAsked, roots, Valid, WithinCompare, Report, Stop, Side, side_with, Output}
use Rattle.compare_report.proofs.Prelude.{IsFineSide, FineWalksNameNothing, FineWalksStopForMemory, FinePlacesStopForMemory, missed_notes, ReportsCompare}
use Rattle.compare_report.proofs.Prelude.{StopsCompare, FineCompare, FineCompareSucceeds, AreOutputs}
use Rattle.tool_text.specs.declared.noting.Why.TheVariants as why
use Rattle.run_report.specs.declared.stops.Stop.TheVariants as stop

-- a count that stood still did so in each part
stood_between : (old from until new : ℕ) → old ≤ from → from ≤ until → until ≤ new → StoodStill old new → StoodStill from until
stood_between old from until new a b c stood = record {
  same = omega (arith, a, b, c, stood.same);
  below_end = omega (arith, b, c, stood.below_end);
}

-- and a side that is fine is so in each part
fine_part : (path : List ℕ) (before after : Side) (from until : ℕ) → before.count ≤ from → from ≤ until → until ≤ after.count →
    IsFineSide (roots (path ∷ [])) before after → IsFineSide (roots (path ∷ [])) (side_with before.tree from) (side_with before.tree until)
fine_part path before after from until a b c fine = record {
  files = fine.files;
  told = fine.told;
  fine = fine.fine;
  stood = stood_between before.count from until after.count a b c fine.stood;
}

fine_rest : (path : List ℕ) (before after : Side) (from : ℕ) → before.count ≤ from → from ≤ after.count → IsFineSide (roots (path ∷ [])) before after →
    IsFineSide (roots (path ∷ [])) (side_with before.tree from) after
fine_rest path before after from a b fine = record {
  files = fine.files;
  told = fine.told;
  fine = fine.fine;
  stood = stood_between before.count from after.count after.count a b (omega arith) fine.stood;
}

one_valid : (path : List ℕ) → Valid path → All Valid (path ∷ [])
one_valid path v = All-from_recursion Valid (path ∷ []) (v, tt)

none_failed : (failed : List Missed) (old new : ℕ) → RoseBy (length failed) old new → StoodStill old new → failed ≡ []
none_failed [] old new rose stood = refl
none_failed (m ∷ failed) old new rose stood = absurd (omega (arith, rose.rose, stood.same, stood.below_end))

names_nothing : FineWalksNameNothing → NothingToOrder → (asked : CompareAsked) (before after : Side) → WithinCompare asked → FineCompare asked before after →
    (report : Report) → ReportsCompare asked before after report → report.failed ≡ 0
names_nothing walks order asked before after within fine report r =
    let c = r.compares in
    let w = c.walks in
    let a = w.source.counted.kept in
    let b = w.destination.counted.kept in
    let d = c.counted.kept in
    let l = walks (asked.left ∷ []) r.left false before (side_with before.tree w.between) (one_valid asked.left within.left)
    (fine_part asked.left before after before.count w.between (omega arith) a (omega (arith, b, d, r.later)) fine.source) w.source
    in
    let s = walks (asked.right ∷ []) r.right true (side_with before.tree w.between) (side_with before.tree c.walked) (one_valid asked.right within.right)
    (fine_part asked.right before after w.between c.walked a b (omega (arith, d, r.later)) fine.destination) w.destination
    in
    let read : r.found.failed ≡ [] =
    none_failed r.found.failed c.walked r.compared c.counted
    (stood_between before.count c.walked r.compared after.count (omega (arith, a, b)) d r.later fine.source.stood)
    in
    let still : r.found.changed ≡ [] = subst (λ t. IfSome t (λ files. r.found.changed ≡ [])) fine.source.told c.compared.unchanged in
    let none =
    order.none r.notes
    (subst (λ given. AreInOrder given r.notes)
    (λ i. (missed_notes why.FailedRead (read i) ++ missed_notes why.Changed (still i)) ++ (l i ++ (s i ++ []))) r.names)
    in
    r.counts ∙ ap length none

-- each output has a place
has_places : (files : Files) (wants : List Want) (rows : List Row) (left_top right_top : List ℕ) (left right : List Entry) (outputs : List Output) →
    AreOutputs wants rows left_top right_top left right outputs → AllByRecursion (λ want. can_save files want.file ≡ true) wants →
    AllByRecursion (λ output. can_save files output.path ≡ true) outputs
has_places files [] rows left_top right_top left right [] are can = tt
has_places files [] rows left_top right_top left right (output ∷ outputs) are can = absurd are
has_places files (want ∷ wants) rows left_top right_top left right [] are can = absurd are
has_places files (want ∷ wants) rows left_top right_top left right (output ∷ outputs) are can =
    (ap (can_save files) are.0.0 ∙ can.0, has_places files wants rows left_top right_top left right outputs are.1 can.1)

stops_for_memory : FineWalksStopForMemory → FinePlacesStopForMemory → (asked : CompareAsked) (before after : Side) → WithinCompare asked →
    FineCompare asked before after → (reason : Stop) → StopsCompare asked before after reason → reason ≡ stop.OutOfMemory
stops_for_memory walks places asked before after within fine reason stops =
    ⊎_elim (λ is. is)
    (⊎_elim (λ s.
    ⊎_elim (λ first. walks (asked.left ∷ []) before after reason (one_valid asked.left within.left) fine.source first)
    (λ second.
    walks (asked.right ∷ []) (side_with before.tree second.between) after reason (one_valid asked.right within.right)
    (fine_rest asked.right before after second.between second.source.counted.kept second.later fine.destination) second.stops)
    s.0)
    (λ s.
    let c = s.compares in
    let a = c.walks.source.counted.kept in
    let b = c.walks.destination.counted.kept in
    let d = c.counted.kept in
    let files = fine.source.files in
    let can =
    has_places files asked.wants s.found.rows asked.left asked.right s.left s.right s.outputs s.are
    (recursion_from_All (λ want. can_save files want.file ≡ true) asked.wants fine.places)
    in
    places s.outputs files (side_with before.tree s.compared) after reason fine.source.told
    (All-from_recursion (λ output. can_save files output.path ≡ true) s.outputs can)
    (stood_between before.count s.compared after.count after.count (omega (arith, a, b, d)) s.later (omega arith) fine.source.stood) s.stops))
    stops

pub compare_succeeds : FineWalksNameNothing → FineWalksStopForMemory → FinePlacesStopForMemory → NothingToOrder → FineCompareSucceeds
compare_succeeds names walks places order asked before after within fine = record {
  names_nothing = names_nothing names order asked before after within fine;
  stops_for_memory = stops_for_memory walks places asked before after within fine;
}
