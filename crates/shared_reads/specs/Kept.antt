-- The outcomes of workers, and how many failed reads they report. Our own.
use Rattle.std.specs.Prelude.{◌≡◌, ℕ, ◌<◌, List, ◌++◌, length, Option, Some, None, All, Vec, slice_index_or}
use Rattle.std.specs.declared.alloc.Global.{Global}
use Rattle.std.specs.List.{sum_by}
use Rattle.shared_reads.specs.declared.keeping.Found.{Found}
use Rattle.shared_reads.specs.declared.keeping.Kept.{Kept}

module _ {O : Type 0} where
  -- a found outcome is one that its place may have
  abbrev pub IsTold : (ℕ → O → Type 0) → Found O → Type 0
  IsTold P f = P f.place f.outcome

  -- so is each found outcome
  abbrev pub Holds : (ℕ → O → Type 0) → Kept O → Type 0
  Holds P kept = All (λ list. All (IsTold P) list.items) kept.lists.items

  -- ---- the outcomes that are given out

  -- an outcome for a place is in a list
  pub record Stands (place : ℕ) (outcome : O) (found : List (Found O)) : Type 0 where
    pub at : ℕ
    pub inside : at < length found
    pub is : (d : Found O) → slice_index_or found at d ≡ record { place = place; outcome = outcome }

  -- and in one of all lists
  pub record IsKept (place : ℕ) (outcome : O) (kept : Kept O) : Type 0 where
    pub of : ℕ
    pub inside : of < length kept.lists.items
    pub own : (d : Vec (Found O) Global) → Stands place outcome (slice_index_or kept.lists.items of d).items

  -- the end of a list was dropped
  pub record IsCut (found found' : List (Found O)) : Type 0 where
    pub later : List (Found O)
    pub are : found ≡ found' ++ later

  -- and the ends of all lists
  pub record AreCut (kept kept' : Kept O) : Type 0 where
    pub as_many : length kept'.lists.items ≡ length kept.lists.items
    pub each : (k : ℕ) (d : Vec (Found O) Global) → k < length kept.lists.items →
        IsCut (slice_index_or kept.lists.items k d).items (slice_index_or kept'.lists.items k d).items

  -- ---- failed reads

  module _ (faults : O → ℕ) where
    -- how many failed reads an outcome reports, if there is one
    abbrev pub faults_of : Option O → ℕ
    faults_of None = 0
    faults_of (Some outcome) = faults outcome

    -- and all outcomes of one worker
    abbrev pub all_faults : List (Found O) → ℕ
    all_faults found = sum_by (λ f. faults f.outcome) found

    -- and all kept outcomes
    abbrev pub held : Kept O → ℕ
    held kept = sum_by (λ list. all_faults list.items) kept.lists.items
