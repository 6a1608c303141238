-- What the steps of each tool told, as its own words say it.
use Rattle.list_report.proofs.Prelude.{◌≡◌, inl, inr, ⊎_elim, ℕ, ◌≤◌, List, [], ◌∷◌, Some, subst, Files, Entry, test_files, Note, ListAsked, Stop, Side}
use Rattle.list_report.proofs.Prelude.{side_with, Account, Finds, output_of, StopsFinding, StopsSaving, StopsList, made_root, made_side}

-- ---- dwalk and dfind

-- finding leaves the tree as it was
pub finds_before : {chosen : List Entry} {notes : List Note} {account : Account} (asked : ListAsked) (now : ℕ) (before found : Side) →
    found.tree ≡ before.tree →
    Finds asked.common asked.start asked.chosen now before found chosen notes account →
    Finds asked.common asked.start asked.chosen now before (side_with before.tree found.count) chosen notes account
finds_before {chosen = chosen} {notes = notes} {account = account} asked now before found same f =
    subst (λ t. Finds asked.common asked.start asked.chosen now before (side_with t found.count) chosen notes account) same f

pub stops_finding : (asked : ListAsked) (before after : Side) (why : Stop) → after.tree ≡ before.tree → StopsFinding asked.start asked.chosen before after why →
    StopsList asked before after why
stops_finding asked before after why same stops = ⊎_elim (λ is. inl is) (λ s. inr (inl (s, same))) stops

pub stops_saving : {chosen : List Entry} {notes : List Note} {account : Account} (asked : ListAsked) (now : ℕ) (before found after : Side) (why : Stop) →
    found.tree ≡ before.tree → Finds asked.common asked.start asked.chosen now before found chosen notes account → found.count ≤ after.count →
    StopsSaving (output_of asked.output chosen) found after why → StopsList asked before after why
stops_saving {chosen = chosen} asked now before found after why same f later stops =
    let finds = finds_before asked now before found same f in
    inr (inr (record {
      looks = finds.looks;
      entries = finds.entries;
      between = found.count;
      survey = finds.survey;
      later = later;
      now = now;
      stops =
          subst (λ es. StopsSaving (output_of asked.output es) (side_with before.tree found.count) after why) finds.chooses
          (subst (λ t. StopsSaving (output_of asked.output chosen) (side_with t found.count) after why) same stops);
    }))

-- ---- dtest

-- what is so of a walk of these paths over these files is so of the made-up tree, whose files and root they are
pub over_made : (P : List (List ℕ) → Side → Side → Type 0) (n : ℕ) (paths : List (List ℕ)) (files after : Files) → paths ≡ made_root ∷ [] →
    files ≡ test_files n →
    Some after ≡ Some files → P paths (side_with (Some files) 0) (side_with (Some after) 0) → P (made_root ∷ []) (made_side n) (made_side n)
over_made P n paths files after root is same h =
    let rooted = subst (λ ps. P ps (side_with (Some files) 0) (side_with (Some after) 0)) root h in
    let steady = subst (λ t. P (made_root ∷ []) (side_with (Some files) 0) (side_with t 0)) same rooted in
    subst (λ f. P (made_root ∷ []) (side_with (Some f) 0) (side_with (Some f) 0)) is steady
