-- What a stage reports, and why it stops, from its steps.
use Rattle.stage_report.proofs.Prelude.{◌≡◌, ◌⊎◌, ℕ, ◌≤◌, List, [], ◌++◌, length, map, sym, subst, ◌∙◌, inl, inr, Option, None, IfSome, Result, Ok, Err, IfErr}
use Rattle.stage_report.proofs.Prelude.{IsErrAnd, Vec, Global, length-map, Files, Entry, lines_of, Note, AreInOrder, StageAsked, Common, max_entries, Report}
use Rattle.stage_report.proofs.Prelude.{Stop, Side, side_with, Account, InOrder, notes_text, failures_in, Saved, output_of, SameButAll, StopsSaving, IsKept}
use Rattle.stage_report.proofs.Prelude.{checkpoint_paths, StopsReading, StopsWriting, summary_text, Stage, all_of, Begins, Begun, FindsTooMany, IsCutOff}
use Rattle.stage_report.proofs.Prelude.{ReportsStage, StopsStage, StopsWalk, Walks, WalksNot, WasCut, WasWhole}
use Rattle.run_report.specs.declared.stops.Stop.TheVariants as stop
use Rattle.stage_report.specs.declared.walking.Stage.TheVariants as stage

-- ---- how it comes to none

-- the checkpoint was not read
pub not_begun : {given : Option (List (List ℕ))} {dir : List ℕ} {before after : Side} {why : Stop} (limit : Option ℕ) (common : Common) →
    (why ≡ stop.OutOfMemory) ⊎ ((given ≡ None) × StopsReading dir before after why) → WalksNot given dir limit common before after why
not_begun limit common (inl memory) = inl memory
not_begun limit common (inr stops) = inr (inl stops)

-- too much was found
pub too_much : {given : Option (List (List ℕ))} {dir : List ℕ} {before after : Side} {tree : Option Files} {done : List Entry} {starts : List (List ℕ)}
    {count : ℕ} {why : Stop} (limit : Option ℕ) (common : Common) → Begins given dir before done starts → before.count ≤ count → tree ≡ before.tree →
    StopsWalk limit common tree done starts count after.count why → WalksNot given dir limit common before after why
too_much limit common begins kept same (inl memory) = inl memory
too_much {before = before} {after = after} {done = done} {starts = starts} {count = count} limit common begins kept same (inr (named, many)) =
    inr (inr (
      named,
      record {
        done = done;
        starts = starts;
        count = count;
        begins = begins;
        kept = kept;
        many = subst (λ t. FindsTooMany limit common t done starts count after.count) same many;
      },
    ))

-- ---- how it ends

-- what is asked for begins, and comes to this
abbrev pub WalksAs : StageAsked → Side → Side → Stage → Type 0
WalksAs asked before walked stage = Walks asked.starts asked.lists asked.stop_after asked.common before walked stage

-- where it began
abbrev begun_in : (asked : StageAsked) (before walked : Side) {stage : Stage} → WalksAs asked before walked stage → Begun asked before
begun_in asked before walked w = record { done = w.done; starts = w.starts; count = w.count; begins = w.begins; kept = w.kept }

-- it comes to none
pub not_walked : (asked : StageAsked) (before after : Side) (why : Stop) → after.tree ≡ before.tree →
    WalksNot asked.starts asked.lists asked.stop_after asked.common before after why → StopsStage asked before after why
not_walked asked before after why same (inl memory) = inl memory
not_walked asked before after why same (inr (inl stops)) = inr (inl (record { goes_on = stops.0; stops = stops.1; same = same }))
not_walked asked before after why same (inr (inr (named, much))) =
    inr (inr (inl (record {
      begun = record { done = much.done; starts = much.starts; count = much.count; begins = much.begins; kept = much.kept };
      many = much.many;
      named = named;
      same = same;
    })))

-- the walk was whole
abbrev was_whole : (asked : StageAsked) (before walked after : Side) {first : Stage} (w : WalksAs asked before walked first) (list : List Entry)
    (account : Account) → first ≡ stage.Finished list account → walked.count ≤ after.count → WasWhole asked before after
was_whole asked before walked after w list account is later =
    let whole = subst (WalksAs asked before walked) is w in
    record {
      begun = begun_in asked before walked whole;
      found = walked.count;
      list = list;
      account = account;
      finished = whole.is;
      few = whole.few;
      later = later;
    }

-- a whole list was not saved
pub not_saved : (asked : StageAsked) (before walked after : Side) {first : Stage} (w : WalksAs asked before walked first) (list : List Entry)
    (account : Account) (why : Stop) → first ≡ stage.Finished list account → walked.count ≤ after.count →
    StopsSaving (output_of asked.output list) walked after why → StopsStage asked before after why
not_saved asked before walked after w list account why is later stops =
    inr (inr (inr (inl (record {
      was = was_whole asked before walked after w list account is later;
      stops = subst (λ t. StopsSaving (output_of asked.output list) (side_with t walked.count) after why) w.same stops;
    }))))

-- a checkpoint is to be written: of this list, and of the strings that each rank left
pub record CutOff (asked : StageAsked) (before walked : Side) (list : List Entry) (handled : ℕ) (strings : List (Vec (List ℕ) Global)) : Type 0 where
  pub begun : Begun asked before
  pub cut : IsCutOff asked.stop_after asked.common before.tree begun.done begun.starts begun.count walked.count handled list
      (map (λ strings. strings.items) strings)
  pub few : length list ≤ max_entries
  pub same : walked.tree ≡ before.tree

pub cut_off : (asked : StageAsked) (before walked : Side) {first : Stage} (w : WalksAs asked before walked first) (handled : ℕ) (list : List Entry)
    (left : Vec (Vec (List ℕ) Global) Global) (strings : List (Vec (List ℕ) Global)) → first ≡ stage.Cut handled list left → strings ≡ left.items →
    CutOff asked before walked list handled strings
cut_off asked before walked w handled list left strings is are =
    let cut = subst (WalksAs asked before walked) is w in
    let off : CutOff asked before walked list handled left.items =
    record {
      begun = begun_in asked before walked cut;
      cut = cut.is;
      few = cut.few;
      same = cut.same;
    } in
    subst (CutOff asked before walked list handled) (sym are) off

-- the walk was cut
abbrev was_cut : (asked : StageAsked) (before walked after : Side) (list : List Entry) (handled : ℕ) (strings : List (Vec (List ℕ) Global)) →
    CutOff asked before walked list handled strings → walked.count ≤ after.count → WasCut asked before after
was_cut asked before walked after list handled strings off later = record {
  begun = off.begun;
  found = walked.count;
  handled = handled;
  list = list;
  left = map (λ strings. strings.items) strings;
  cut = off.cut;
  few = off.few;
  later = later;
}

-- its checkpoint was not kept
pub not_kept : (asked : StageAsked) (before walked after : Side) (list : List Entry) (handled : ℕ) (strings : List (Vec (List ℕ) Global)) (why : Stop) →
    CutOff asked before walked list handled strings → walked.count ≤ after.count → StopsWriting asked.lists (length strings) list walked after why →
    StopsStage asked before after why
not_kept asked before walked after list handled strings why off later stops =
    inr (inr (inr (inr (inl (record {
      was = was_cut asked before walked after list handled strings off later;
      stops = subst (λ n. StopsWriting asked.lists n list (side_with before.tree walked.count) after why)
          (sym (length-map strings (λ strings. strings.items)))
          (subst (λ t. StopsWriting asked.lists (length strings) list (side_with t walked.count) after why) off.same stops);
    })))))

-- it was
pub kept : (asked : StageAsked) (before walked after : Side) (list : List Entry) (handled : ℕ) (strings : List (Vec (List ℕ) Global)) (why : Stop) →
    CutOff asked before walked list handled strings → walked.count ≤ after.count →
    IfSome after.tree (IsKept asked.lists list (map (λ strings. strings.items) strings)) →
    IfSome walked.tree (λ files. IfSome after.tree (SameButAll (checkpoint_paths asked.lists (length strings)) files)) →
    why ≡ stop.Stopped handled (length (all_of (map (λ strings. strings.items) strings))) → StopsStage asked before after why
kept asked before walked after list handled strings why off later holds rest named =
    inr (inr (inr (inr (inr (record {
      was = was_cut asked before walked after list handled strings off later;
      kept = holds;
      rest =
          subst (λ n. IfSome before.tree (λ files. IfSome after.tree (SameButAll (checkpoint_paths asked.lists n) files)))
          (sym (length-map strings (λ strings. strings.items)) ∙ off.cut.ranks)
          (subst (λ t. IfSome t (λ files. IfSome after.tree (SameButAll (checkpoint_paths asked.lists (length strings)) files))) off.same rest);
      named = named;
    })))))

-- what was told of a whole list
pub record Printed (asked : StageAsked) (list : List Entry) (account : Account) (report : Report) : Type 0 where
  pub notes : List Note
  pub names : AreInOrder (failures_in [] list) notes
  pub printed : (printed : List Entry) × InOrder asked.sort list printed × (report.out ≡ lines_of printed ++ summary_text list (length notes))
  pub tells : report.notes ≡ notes_text asked.common account notes
  pub counts : report.failed ≡ length notes

-- of what was found, which is the whole list
pub prints_all : (asked : StageAsked) (list chosen : List Entry) (account told : Account) (notes : List Note) (report : Report) → chosen ≡ list →
    told ≡ account → AreInOrder (failures_in [] list) notes →
    (printed : List Entry) × InOrder asked.sort chosen printed × (report.out ≡ lines_of printed ++ summary_text chosen (length notes)) →
    report.notes ≡ notes_text asked.common told notes → report.failed ≡ length notes → Printed asked list account report
prints_all asked list chosen account told notes report all same names printed tells counts = record {
  notes = notes;
  names = names;
  printed =
      subst (λ es. (printed : List Entry) × InOrder asked.sort es printed × (report.out ≡ lines_of printed ++ summary_text es (length notes))) all printed;
  tells = subst (λ a. report.notes ≡ notes_text asked.common a notes) same tells;
  counts = counts;
}

pub reports : (asked : StageAsked) (before walked after : Side) {first : Stage} (w : WalksAs asked before walked first) (list : List Entry)
    (account : Account) (report : Report) → first ≡ stage.Finished list account → walked.count ≤ after.count →
    Saved (output_of asked.output list) walked.tree after.tree → Printed asked list account report → ReportsStage asked before after report
reports asked before walked after w list account report is later saved p = record {
  was = was_whole asked before walked after w list account is later;
  saved = subst (λ t. Saved (output_of asked.output list) t after.tree) w.same saved;
  notes = p.notes;
  names = p.names;
  printed = p.printed.0;
  order = p.printed.1;
  prints = p.printed.2;
  tells = p.tells;
  counts = p.counts;
}

-- what holds of a reason holds of the answer that tells it
pub told_as : (r : Result Report Stop) (why : Stop) (P : Stop → Type 0) → IsErrAnd r (λ e. e ≡ why) → P why → IfErr r P
told_as (Ok report) why P told p = tt
told_as (Err e) why P told p = subst P (sym told) p
