-- When dwalk, dfind and dtest succeed.
use Rattle.list_report.proofs.Prelude.{◌≡◌, inr, ⊎_elim, ℕ, ◌≤◌, true, List, [], ◌∷◌, length, Option, Some, None, IfSome, refl, ap, arith, ◌∙◌}
use Rattle.list_report.proofs.Prelude.{All-from_recursion, StoodStill, Files, can_save, Entry, test_files, Valid, WithinList, roots, Choice, ListAsked, Report}
use Rattle.list_report.proofs.Prelude.{Stop, Side, side_with, Output, tests_in, chosen_of, output_of, StopsFinding, IsFineSide, FineFindsNameNothing}
use Rattle.list_report.proofs.Prelude.{FineFindsStopForMemory, FinePlacesStopForMemory, FineListSucceeds, FineTestSucceeds, MadeWalkIsFine, ReportsList}
use Rattle.list_report.proofs.Prelude.{StopsList, FineList, made_root, made_side}
use Rattle.std.specs.List.{All}
use Rattle.run_report.specs.declared.stops.Stop.TheVariants as stop

-- a count that stood still did so in both of its parts
stood_before : (old between new : ℕ) → old ≤ between → between ≤ new → StoodStill old new → StoodStill old between
stood_before old between new a b stood = record { same = omega (arith, a, b, stood.same); below_end = omega (arith, b, stood.below_end) }

stood_after : (old between new : ℕ) → old ≤ between → between ≤ new → StoodStill old new → StoodStill between new
stood_after old between new a b stood = record { same = omega (arith, a, b, stood.same); below_end = stood.below_end }

-- ---- dwalk and dfind

list_names_nothing : FineFindsNameNothing → (asked : ListAsked) (now : ℕ) (before after : Side) → WithinList asked → FineList asked before after →
    (report : Report) →
    ReportsList asked now before after report → report.failed ≡ 0
list_names_nothing law asked now before after within fine report r =
    let survey = r.finds.survey in
    let found = side_with before.tree r.found in
    let side : IsFineSide asked.start before found = record {
      files = fine.side.files;
      told = fine.side.told;
      fine = fine.side.fine;
      stood = stood_before before.count r.found after.count (omega (arith, survey.looked.counted.kept, survey.later)) r.later fine.side.stood;
    } in
    r.counts ∙ ap length (law asked.common asked.start asked.chosen now before found r.chosen r.notes r.account within.start side fine.there r.finds)

-- the output has a place, where there is one
pub has_place : (files : Files) (output : Option (List ℕ)) (entries : List Entry) → IfSome output (λ path. can_save files path ≡ true) →
    All (λ o. can_save files o.path ≡ true) (output_of output entries)
has_place files None entries can = All-from_recursion (λ (o : Output). can_save files o.path ≡ true) [] tt
has_place files (Some path) entries can =
    All-from_recursion (λ (o : Output). can_save files o.path ≡ true) (output_of (Some path) entries) (can, tt)

list_stops_for_memory : FineFindsStopForMemory → FinePlacesStopForMemory → (asked : ListAsked) (before after : Side) → WithinList asked →
    FineList asked before after →
    (why : Stop) → StopsList asked before after why → why ≡ stop.OutOfMemory
list_stops_for_memory finds places asked before after within fine why stops =
    ⊎_elim (λ is. is)
    (⊎_elim (λ s. finds asked.start asked.chosen before after why within.start fine.side (inr s.0))
    (λ s.
    let survey = s.survey in
    let more : before.count ≤ s.between = omega (arith, survey.looked.counted.kept, survey.later) in
    places (output_of asked.output (chosen_of (tests_in asked.chosen) s.looks s.now s.entries)) fine.side.files
    (side_with before.tree s.between) after why fine.side.told
    (has_place fine.side.files asked.output _ fine.place)
    (stood_after before.count s.between after.count more s.later fine.side.stood) s.stops))
    stops

pub list_succeeds : FineFindsNameNothing → FineFindsStopForMemory → FinePlacesStopForMemory → FineListSucceeds
list_succeeds law finds places asked now before after within fine = record {
  names_nothing = list_names_nothing law asked now before after within fine;
  stops_for_memory = list_stops_for_memory finds places asked before after within fine;
}

-- ---- dtest

root_valid : All Valid (made_root ∷ [])
root_valid = All-from_recursion Valid (made_root ∷ []) (refl, tt)

made_is_fine : MadeWalkIsFine → (n : ℕ) → (1 ≤ n) × (n ≤ 1000000) → IsFineSide (roots (made_root ∷ [])) (made_side n) (made_side n)
made_is_fine law n bounds =
    record { files = test_files n; told = refl; fine = law n bounds.0 bounds.1; stood = record { same = refl; below_end = omega arith } }

pub test_succeeds : MadeWalkIsFine → FineFindsNameNothing → FineTestSucceeds
unfolding made_is_fine
test_succeeds walks law asked now within there = record {
  names_nothing = λ report r.
      r.counts
      ∙ ap length
      (law asked.common (roots (made_root ∷ [])) (Some asked.choice) now (made_side asked.nodes) (made_side asked.nodes) r.chosen r.notes r.account root_valid
      (made_is_fine walks asked.nodes within.nodes) there r.finds);
  stops_for_memory = λ why stops. stops;
}

-- where nothing was found in a made-up tree, memory was wanting
pub made_stops : MadeWalkIsFine → FineFindsStopForMemory → (n : ℕ) → (1 ≤ n) × (n ≤ 1000000) → (choice : Option Choice) (why : Stop) →
    StopsFinding (roots (made_root ∷ [])) choice (made_side n) (made_side n) why → why ≡ stop.OutOfMemory
made_stops walks law n bounds choice why stops =
    law (roots (made_root ∷ [])) choice (made_side n) (made_side n) why root_valid (made_is_fine walks n bounds) stops
