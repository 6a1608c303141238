-- When drm succeeds.
use Rattle.remove_report.proofs.Prelude.{◌≡◌, inr, ⊎_elim, ℕ, ◌+◌, ◌≤◌, Bool, true, false, cond, List, [], ◌∷◌, ◌++◌, length, map, Some, refl, ap, ◌∙◌, sym}
use Rattle.remove_report.proofs.Prelude.{subst, arith, get_or, nat_tests, All-filter, All-from_recursion, recursion_from_All, ◌==◌, get, All, AllByRecursion}
use Rattle.remove_report.proofs.Prelude.{flat_map, StoodStill, Files, far_at, Entry, Mark, paths, Fate, EntriesAreTold, far_by, answers_in, walk, AreWhole}
use Rattle.remove_report.proofs.Prelude.{WholeChoicesGo, Removed, Note, Why, mark_whys, number_whys, whys_of, entry_notes, notes_of, AreInOrder, NothingToOrder}
use Rattle.remove_report.proofs.Prelude.{RemoveAsked, roots, Valid, WithinRemove, Report, Stop, Side, side_with, IsFineSide, DoneNamesNothing, StillCounts}
use Rattle.remove_report.proofs.Prelude.{FineFindsNameNothing, FineFindsStopForMemory, FineWalksNameNothing, on_side, removal_notes, of_told, some_of, Acts}
use Rattle.remove_report.proofs.Prelude.{Chooses, Removes, FineRemoveSucceeds, ReportsRemove, StopsRemove, FineRemove}
use Rattle.entry_pages.specs.declared.entries.Mark.TheVariants as mark
use Rattle.tool_text.specs.declared.noting.Why.TheVariants as why
use Rattle.run_report.specs.declared.stops.Stop.TheVariants as stop

abbrev Row : Type 0
Row = List ℕ × Fate

abbrev firsts : List Row → List (List ℕ)
firsts rows = map (λ row. row.0) rows

-- ---- what a walk that names nothing tells

nil_parts : {X : Type 0} (xs ys : List X) → xs ++ ys ≡ [] → (xs ≡ []) × (ys ≡ [])
nil_parts [] ys e = (refl, e)
nil_parts (x ∷ xs) ys e = cc

map_nil : {X Y : Type 0} (f : X → Y) (xs : List X) → map f xs ≡ [] → xs ≡ []
map_nil f [] e = refl
map_nil f (x ∷ xs) e = cc

abbrev Quiet : Entry → Type 0
Quiet e = (e.mark ≡ mark.Fine) × (e.far ≡ 0)

quiet_mark : (m : Mark) → mark_whys m ≡ [] → m ≡ mark.Fine
quiet_mark mark.Fine e = refl
quiet_mark mark.StatFailed e = cc
quiet_mark mark.ListFailed e = cc
quiet_mark mark.Gone e = cc
quiet_mark mark.Changed e = cc

quiet_far : (k : ℕ) → number_whys why.TooLong k ≡ [] → k ≡ 0
quiet_far k e = elim (k == 0) as (λ b. (k == 0) ≡ b → cond b [] (why.TooLong k ∷ []) ≡ [] → k ≡ 0) [
  | true ↦ λ is _. none k is
  | false ↦ λ _ h. cc
] refl e
  where
    none : (k : ℕ) → (k == 0) ≡ true → k ≡ 0
    none k e = grind (arith, nat_tests)

quiet : (es : List Entry) → notes_of es ≡ [] → AllByRecursion Quiet es
quiet [] e = tt
quiet (x ∷ es) e =
    let parts = nil_parts (entry_notes x) (notes_of es) e in
    let named : Why → Note = λ w. record { path = x.path; why = w; dest = false } in
    let whys = nil_parts (mark_whys x.mark ++ number_whys why.Unnamed x.unnamed) (number_whys why.TooLong x.far) (map_nil named (whys_of x) parts.0) in
    let marks = nil_parts (mark_whys x.mark) (number_whys why.Unnamed x.unnamed) whys.0 in
    ((quiet_mark x.mark marks.0, quiet_far x.far whys.1), quiet es parts.1)

-- so no directory in it has a child whose path is too long
near_entries : EntriesAreTold → (files : Files) (es : List Entry) (rs : List (List ℕ)) → es ≡ flat_map (walk files (answers_in es)) rs
    → AllByRecursion Quiet es →
    All (λ e. far_at (get files e.path) ≡ 0) es
near_entries law files es rs is q =
    let told = subst (λ xs. All (Rattle.tree_walk.specs.Told.IsTold files (answers_in es)) xs) (sym is) (law.of_all files (answers_in es) rs) in
    let all = All-from_recursion Quiet es q in
    λ k d l. let e = get_or es k d in let t = told k d l in let fine = all k d l in
    ap (λ m. far_by m (get files e.path)) (sym fine.0) ∙ sym t.far ∙ fine.1

near_paths : (files : Files) (es : List Entry) → AllByRecursion (λ e. far_at (get files e.path) ≡ 0) es
    → AllByRecursion (λ p. far_at (get files p) ≡ 0) (paths es)
near_paths files [] h = tt
near_paths files (e ∷ es) h = (h.0, near_paths files es h.1)

near_rows : (files : Files) (rows : List Row) → AllByRecursion (λ p. far_at (get files p) ≡ 0) (firsts rows)
    → AllByRecursion (λ row. far_at (get files row.0) ≡ 0) rows
near_rows files [] h = tt
near_rows files (row ∷ rows) h = (h.0, near_rows files rows h.1)

-- ---- the law

pub record Laws : Type 0 where
  pub finds : FineFindsNameNothing
  pub stops : FineFindsStopForMemory
  pub walks : FineWalksNameNothing
  pub order : NothingToOrder
  pub told : EntriesAreTold
  pub go : WholeChoicesGo
  pub done : DoneNamesNothing
  pub still : StillCounts

no_notes : Laws → (asked : RemoveAsked) (now : ℕ) (before after : Side) → WithinRemove asked → FineRemove asked now before after →
    (chosen : List Entry) (named : List Note) (found : ℕ) → Chooses asked now before (side_with before.tree found) chosen named → (rows : List Row) →
    StoodStill before.count found → StoodStill found after.count → asked.dryrun ≡ false
    → Removes chosen rows (side_with before.tree found) after → removal_notes rows ≡ []
no_notes laws asked now before after within fine chosen named found chooses rows first then wet removes =
    let f = chooses.finds in
    let w = f.survey.listed in
    let files = fine.side.files in
    let valid : All Valid asked.roots = λ k d l. (within.roots k d l).0 in
    let looked = f.survey.looked.counted.kept in
    let walked : IsFineSide (roots asked.roots) (side_with before.tree f.survey.between) (side_with before.tree found) = record {
      files = files;
      told = fine.side.told;
      fine = fine.side.fine;
      stood = laws.still.between before.count f.survey.between found found looked f.survey.later (omega arith) first;
    } in
    let silent = laws.walks asked.roots f.entries false (side_with before.tree f.survey.between) (side_with before.tree found) valid walked w in
    let calm = quiet f.entries (map_nil (on_side false) (notes_of f.entries) silent) in
    let is = of_told (λ files. f.entries ≡ flat_map (walk files (answers_in f.entries)) w.roots) before.tree files fine.side.told w.told in
    let near_all = near_entries laws.told files f.entries w.roots is calm in
    let near = subst (λ es. All (λ e. far_at (get files e.path) ≡ 0) es) (sym f.chooses)
    (All-filter _ (λ e. far_at (get files e.path) ≡ 0) f.entries near_all) in
    let lasts = near_paths files chosen (recursion_from_All (λ e. far_at (get files e.path) ≡ 0) chosen near) in
    let last = some_of (Removed rows) before.tree after.tree files fine.side.told removes.tells removes.removed in
    laws.done.removals rows (laws.go rows files last.0 last.1
    (subst (AreWhole files) (sym removes.paths) (fine.whole wet chosen named found chooses))
    (All-from_recursion _ rows (near_rows files rows (subst (λ ps. AllByRecursion (λ p. far_at (get files p) ≡ 0) ps) (sym removes.paths) lasts)))
    (laws.still.none _ found after.count removes.blamed then))

names_nothing : Laws → (asked : RemoveAsked) (now : ℕ) (before after : Side) → WithinRemove asked → FineRemove asked now before after →
    (report : Report) → ReportsRemove asked now before after report → report.failed ≡ 0
names_nothing laws asked now before after within fine report r =
    let f = r.chooses.finds in
    let valid : All Valid asked.roots = λ k d l. (within.roots k d l).0 in
    let early : before.count ≤ r.found = omega (arith, f.survey.looked.counted.kept, f.survey.later, f.survey.listed.counted.kept) in
    let later = kept asked.dryrun r.acts in
    let first = laws.still.between before.count before.count r.found after.count (omega arith) early later fine.side.stood in
    let then = laws.still.between before.count r.found after.count after.count early later (omega arith) fine.side.stood in
    let side : IsFineSide (roots asked.roots) before (side_with before.tree r.found) =
    record { files = fine.side.files; told = fine.side.told; fine = fine.side.fine; stood = first } in
    let named : r.named ≡ [] =
    laws.finds asked.common (roots asked.roots) (Some asked.choice) now before
    (side_with before.tree r.found) r.chosen r.named r.chooses.account valid side fine.there f in
    let fates : removal_notes r.rows ≡ [] = by asked.dryrun refl r.acts (first, then) in
    r.counts ∙ ap length (laws.order.none r.notes (subst (λ given. AreInOrder given r.notes) (λ i. named i ++ fates i) r.names))
  where
    kept : (b : Bool) → Acts b r.chosen r.rows (side_with before.tree r.found) after → r.found ≤ after.count
    kept true a = a.kept
    kept false a = a.blamed.kept

    by : (b : Bool) → asked.dryrun ≡ b → Acts b r.chosen r.rows (side_with before.tree r.found) after → StoodStill before.count r.found
        × StoodStill r.found after.count →
        removal_notes r.rows ≡ []
    by true e a stood = ap removal_notes a.none
    by false e a stood = no_notes laws asked now before after within fine r.chosen r.named r.found r.chooses r.rows stood.0 stood.1 e a

stops_for_memory : Laws → (asked : RemoveAsked) (now : ℕ) (before after : Side) → WithinRemove asked → FineRemove asked now before after →
    (reason : Stop) → StopsRemove asked before after reason → reason ≡ stop.OutOfMemory
stops_for_memory laws asked now before after within fine reason stops =
    ⊎_elim (λ is. is) (λ s. laws.stops (roots asked.roots) (Some asked.choice) before after reason (λ k d l. (within.roots k d l).0) fine.side (inr s.0)) stops

pub remove_succeeds : Laws → FineRemoveSucceeds
remove_succeeds laws asked now before after within fine = record {
  names_nothing = names_nothing laws asked now before after within fine;
  stops_for_memory = stops_for_memory laws asked now before after within fine;
}
