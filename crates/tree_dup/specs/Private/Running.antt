-- Runs of files, and what reading the files of a run comes to. Our own.
-- Only clauses of this crate's own functions cite this file.
use Rattle.std.specs.Prelude.{◌≡◌, ◌≢◌, ℕ, ◌<◌, ◌≤◌, Bool, true, false, ◌&&◌, ◌==◌, List, length, take, drop, map, Option, All}
use Rattle.std.specs.Prelude.{slice_index_or, if◌then◌else◌, IfSome}
use Rattle.std.specs.List.{sum_by}
use Rattle.std.specs.FinMap.{get}
use Rattle.std.specs.Ordering.{nat_cmp, ordering_then}
use Rattle.std.specs.declared.cmp.Ordering.{Ordering}
use Rattle.sha2.specs.Hashers.{Holds256}
use Rattle.sha2.specs.Sha256.{sha256}
use Rattle.sha2.specs.declared.Sha256.{Sha256}
use Rattle.outside.specs.Asked.{Asks}
use Rattle.outside.specs.Tree.{Files, content}
use Rattle.shared_reads.specs.Counts.{KeepsUp}
use Rattle.tree_cmp.specs.declared.reading.Missing.TheVariants as m
use Rattle.tree_dup.specs.declared.runs.Standing.{Standing}
use Rattle.tree_dup.specs.declared.runs.Standing.TheVariants as s
use Rattle.tree_dup.specs.declared.runs.File.{File}
use Rattle.tree_dup.specs.declared.runs.Comparison.{Comparison}
use Rattle.tree_cmp.specs.Filling.{IsFileOf, ShowsMissing}

-- ---- files by their content

abbrev pub content_cmp : File → File → Ordering
content_cmp a b = ordering_then (nat_cmp a.size b.size) (nat_cmp a.hash b.hash)

abbrev pub same_content : File → File → Bool
same_content a b = a.size == b.size && a.hash == b.hash

-- a file of this size and this hash
pub record HasContent (size hash : ℕ) (f : File) : Type 0 where
  pub of_size : f.size ≡ size
  pub of_hash : f.hash ≡ hash

-- files of one size and one hash
pub record IsRun (files : List File) : Type 0 where
  pub size : ℕ
  pub hash : ℕ
  pub all : All (HasContent size hash) files

-- from this place on the files are of the size and the hash of the last one, and none before is
pub record IsLastRun (files : List File) (start : ℕ) : Type 0 where
  pub inside : start < length files
  pub run : IsRun (drop start files)
  pub others : (j k : ℕ) (d : File) → j < start → start ≤ k → k < length files → same_content (slice_index_or files j d) (slice_index_or files k d) ≡ false

-- ---- standings

abbrev pub standing_alike : Standing → Bool
standing_alike s.Alike = true
standing_alike _ = false

abbrev pub is_alike : File → Bool
is_alike f = standing_alike f.standing

-- a file as it is before its run is read
abbrev pub still : File → File
still f = record f { standing = s.Alike }

abbrev pub standing_failed : Standing → Bool
standing_failed (s.Missed m.Failed) = true
standing_failed _ = false

-- how many faults a standing was counted for
abbrev pub failures_of : Standing → ℕ
failures_of standing = if standing_failed standing then 1 else 0

abbrev pub failures : List File → ℕ
failures files = sum_by (λ f. failures_of f.standing) files

abbrev pub is_failed : File → Bool
is_failed f = standing_failed f.standing

abbrev pub standing_other : Standing → Bool
standing_other s.Other = true
standing_other _ = false

abbrev pub standing_changed : Standing → Bool
standing_changed (s.Missed m.Changed) = true
standing_changed _ = false

abbrev pub is_other : File → Bool
is_other f = standing_other f.standing

abbrev pub is_changed : File → Bool
is_changed f = standing_changed f.standing

abbrev pub paths_of : List File → List (List ℕ)
paths_of files = map (λ f. f.path) files

-- a file that was missed was asked for, and answered so
abbrev pub StandingShows : {S : Type 0} → Asks S → List ℕ → Standing → Type 0
StandingShows gives path (s.Missed why) = ShowsMissing gives path why
StandingShows gives path _ = Unit {0}

abbrev pub Shows : {S : Type 0} → Asks S → File → Type 0
Shows gives f = StandingShows gives f.path f.standing

-- ---- what is read of a run

module _ {R : Type 0} (tree : R → Option Files) (count : R → ℕ) (gives : Asks R) where
  -- a reader read of one file of a run
  pub record Moved (r r' : R) (f f' : File) : Type 0 where
    pub same : tree r' ≡ tree r
    pub file : still f' ≡ still f
    pub counted : KeepsUp (failures_of f.standing) (failures_of f'.standing) (count r) (count r')
    pub shows : Shows gives f → Shows gives f'
    -- only files that are alike still are read
    pub idle : is_alike f ≡ false → f' ≡ f

  -- a reader read of the files of a run
  pub record Went (r r' : R) (run run' : List File) : Type 0 where
    pub same : tree r' ≡ tree r
    pub files : map still run' ≡ map still run
    pub counted : KeepsUp (failures run) (failures run') (count r) (count r')
    pub shows : All (Shows gives) run → All (Shows gives) run'
    pub idle : (k : ℕ) (d : File) → k < length run → is_alike (slice_index_or run k d) ≡ false → slice_index_or run' k d ≡ slice_index_or run k d

-- the tree has a file of its size
abbrev pub IsThere : Files → File → Type 0
IsThere tree f = IsFileOf (get tree f.path) f.size

-- how bytes that are as long stand to those of the lead
abbrev pub Stands : Standing → List ℕ → List ℕ → Type 0
Stands s.Alike bytes lead = bytes ≡ lead
Stands s.Other bytes lead = bytes ≢ lead
Stands (s.Missed m.Failed) bytes lead = Unit {0}
Stands (s.Missed m.Changed) bytes lead = ⊥

-- so do the first bytes of a file to those of the lead
abbrev pub StandsAt : Files → ℕ → List ℕ → File → Type 0
StandsAt tree at lead f = Stands f.standing (take at (content (get tree f.path))) lead

-- and all of them
abbrev pub StandsTo : Files → List ℕ → File → Type 0
StandsTo tree lead f = Stands f.standing (content (get tree f.path)) lead

-- a reader looked for a lead of a run: no file of it stands to the first bytes of the lead in another way, nor is its first one put aside
pub record Sought {R : Type 0} (tree : R → Option Files) (count : R → ℕ) (gives : Asks R) (at : ℕ) (r r' : R) (run run' : List File) : Type 0 where
  pub went : Went tree count gives r r' run run'
  pub told : IfSome (tree r) (λ files. All (IsThere files) run → (bytes : List ℕ) → All (StandsAt files at bytes) run → All (StandsAt files at bytes) run')
  pub front : (d : File) → 0 < length run → is_other (slice_index_or run 0 d) ≡ false → is_other (slice_index_or run' 0 d) ≡ false

-- the files of a run are divided by their first bytes, and the hasher holds those of the lead
pub record AreDivided (tree : Files) (at : ℕ) (hasher : Sha256) (files : List File) : Type 0 where
  pub lead : List ℕ
  pub held : Holds256 hasher lead
  pub long : length lead ≡ at
  pub each : All (StandsAt tree at lead) files

-- the files of a run are divided by their bytes, and this is the digest of the lead
pub record AreSettled (tree : Files) (digest : List ℕ) (files : List File) : Type 0 where
  pub lead : List ℕ
  pub digest_is : digest ≡ sha256 lead
  pub each : All (StandsTo tree lead) files

-- ---- runs that workers compare

abbrev pub standing_of : File → Standing
standing_of f = f.standing

-- how many failed reads some standings tell
abbrev pub faults_in : List Standing → ℕ
faults_in standings = sum_by failures_of standings

-- a run was compared, its lead has this digest, and its files came to these standings
pub record AreStandings {S : Type 0} (tree : Option Files) (gives : Asks S) (run : List File) (digest : List ℕ) (standings : List Standing) : Type 0 where
  pub run' : List File
  pub are : map standing_of run' ≡ standings
  pub same : map still run' ≡ map still run
  pub shows : All (Shows gives) run'
  pub settled : IfSome tree (λ files. All (IsThere files) run → AreSettled files digest run')
  pub empty : All (λ f. f.size ≡ 0) run → run' ≡ run
  pub front : (d : File) → 0 < length run → is_other (slice_index_or run' 0 d) ≡ false

-- the same of the run that begins at a place, and is as long as the standings
abbrev pub StandFrom : {S : Type 0} → Option Files → Asks S → List File → ℕ → Comparison → Type 0
StandFrom tree gives files place c =
    AreStandings tree gives (map still (take (length c.standings.items) (drop place files))) c.digest c.standings.items

-- the standings are those of the run, if they are as many
abbrev pub StandFor : {S : Type 0} → Option Files → Asks S → List File → Comparison → Type 0
StandFor tree gives run c = length c.standings.items ≡ length run → AreStandings tree gives run c.digest c.standings.items

-- how many failed reads a comparison tells
abbrev pub comparison_faults : Comparison → ℕ
comparison_faults c = faults_in c.standings.items
