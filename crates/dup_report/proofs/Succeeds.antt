-- When ddup succeeds.
use Rattle.dup_report.proofs.Prelude.{◌≡◌, ⊎_elim, ℕ, false, List, [], ◌∷◌, ◌++◌, length, IfSome, refl, ap, subst, arith, ◌∙◌, IsByBytes, AreInOrder}
use Rattle.dup_report.proofs.Prelude.{NothingToOrder, DupAsked, roots, WithinDup, Report, Stop, Side, side_with, IsFineSide, FineWalksNameNothing}
use Rattle.dup_report.proofs.Prelude.{FineWalksStopForMemory, StillCounts, path_notes, ReportsDup, StopsDup, FineDup, FineDupSucceeds}
use Rattle.tool_text.specs.declared.noting.Why.TheVariants as why
use Rattle.run_report.specs.declared.stops.Stop.TheVariants as stop

no_path : (paths : List (List ℕ)) → length paths ≡ 0 → paths ≡ []
no_path [] none = refl
no_path (p ∷ paths) none = absurd (omega (arith, none))

names_nothing : FineWalksNameNothing → NothingToOrder → StillCounts → (asked : DupAsked) (before after : Side) → WithinDup asked → FineDup asked before after →
    (report : Report) → ReportsDup asked before after report → report.failed ≡ 0
names_nothing walks order still asked before after within fine report r =
    let f = r.finds in
    let early = f.walks.counted.kept in
    let late = f.counted.kept in
    let walked = side_with before.tree f.walked in
    let side : IsFineSide (roots asked.roots) before walked = record {
      files = fine.files;
      told = fine.told;
      fine = fine.fine;
      stood = still.between before.count before.count f.walked after.count (omega arith) early late fine.stood;
    } in
    let listed = walks asked.roots r.entries false before walked within.roots side f.walks in
    let read : r.found.failed ≡ [] =
    no_path r.found.failed
    (still.none (length r.found.failed) f.walked after.count f.counted
    (still.between before.count f.walked after.count after.count early late (omega arith) fine.stood))
    in
    let same : r.found.changed ≡ [] = (subst (λ t. IfSome t (IsByBytes r.entries r.found)) fine.told f.grouped.told).unchanged in
    let none =
    order.none r.notes
    (subst (λ given. AreInOrder given r.notes)
    (λ i. (path_notes why.FailedRead (read i) ++ path_notes why.Changed (same i)) ++ (listed i ++ [])) r.names)
    in
    r.counts ∙ ap length none

stops_for_memory : FineWalksStopForMemory → (asked : DupAsked) (before after : Side) → WithinDup asked → FineDup asked before after → (reason : Stop) →
    StopsDup asked before after reason → reason ≡ stop.OutOfMemory
stops_for_memory walks asked before after within fine reason stops =
    ⊎_elim (λ is. is) (λ s. walks asked.roots before after reason within.roots fine s.0) stops

pub dup_succeeds : FineWalksNameNothing → FineWalksStopForMemory → NothingToOrder → StillCounts → FineDupSucceeds
dup_succeeds names walks order still asked before after within fine = record {
  names_nothing = names_nothing names order still asked before after within fine;
  stops_for_memory = stops_for_memory walks asked before after within fine;
}
