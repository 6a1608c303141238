-- Candidates are read for their hashes. Our own.
-- Only clauses of this crate's own functions cite this file.
use Rattle.std.specs.Prelude.{◌≡◌, ℕ, zero, suc, ◌<◌, List, [], ◌∷◌, length, take, drop, Option, Result, Ok, Err, IfOk, IfErr, IfSome, slice_index_or}
use Rattle.std.specs.Prelude.{slice_set}
use Rattle.std.specs.FinMap.{get}
use Rattle.std.specs.Hash.FoldHasher.{initial, write, finish}
use Rattle.std.specs.List.{swap_remove}
use Rattle.std.specs.declared.hash.FoldHasher.{FoldHasher}
use Rattle.outside.specs.Asked.{Asks}
use Rattle.outside.specs.Tree.{Files, content}
use Rattle.tree_dup.specs.Grouping.{ShowsWhole}
use Rattle.tree_dup.specs.Told.{Grouping}
use Rattle.tree_cmp.specs.declared.reading.Missing.{Missing}
use Rattle.tree_cmp.specs.declared.reading.Missing.TheVariants as m
use Rattle.tree_dup.specs.declared.runs.File.{File}
use Rattle.tree_dup.specs.Private.Dealing.{with_missed}
use Rattle.tree_cmp.specs.Filling.{ShowsMissing}
use Rattle.tree_dup.specs.Private.Running.{IsThere}

-- the hasher once it took so many pieces of 64 KiB of the bytes, or all of them
unfoldable pub fed : ℕ → FoldHasher → List ℕ → FoldHasher
fed zero hasher bytes = hasher
fed (suc n) hasher [] = hasher
fed (suc n) hasher (b ∷ bytes) = fed n (write hasher (take 65536 (b ∷ bytes))) (drop 65536 (b ∷ bytes))

-- and once it took all
abbrev pub fed_all : FoldHasher → List ℕ → FoldHasher
fed_all hasher bytes = fed (length bytes) hasher bytes

abbrev pub content_hash : List ℕ → ℕ
content_hash bytes = finish (fed_all initial bytes)

-- a file that has bytes was read up to its size
abbrev pub IsWhole : {S : Type 0} → Asks S → File → Type 0
IsWhole gives f = 0 < f.size → ShowsWhole gives f.size f.path

-- how many failed reads it tells
abbrev pub hash_faults : Result ℕ Missing → ℕ
hash_faults (Ok hash) = 0
hash_faults (Err m.Failed) = 1
hash_faults (Err m.Changed) = 0

-- what reading a candidate for its hash comes to
pub record IsHash {S : Type 0} (tree : Option Files) (gives : Asks S) (f : File) (hash : Result ℕ Missing) : Type 0 where
  pub told : IfOk hash (λ h. IfSome tree (λ files. IsThere files f → h ≡ content_hash (content (get files f.path))))
  pub unchanged : hash ≡ Err m.Changed → IfSome tree (λ files. IsThere files f → ⊥)
  pub empty : f.size ≡ 0 → IfErr hash (λ why. ⊥)
  pub shows : IfErr hash (ShowsMissing gives f.path)
  pub whole : IfOk hash (λ h. IsWhole gives f)

-- the same of the candidate at a place
abbrev pub AreHashes : {S : Type 0} → Option Files → Asks S → List File → ℕ → Result ℕ Missing → Type 0
AreHashes tree gives files place hash = (d : File) → IsHash tree gives (slice_index_or files place d) hash

-- a hash is put beside its candidate, or the candidate is missed, and the last one comes into its place
abbrev pub WasPut : Result ℕ Missing → ℕ → List File → List File → Grouping → Grouping → Type 0
WasPut (Ok hash) k files files' found found' =
    (found' ≡ found) × ((d : File) → files' ≡ slice_set files k (record (slice_index_or files k d) { hash = hash }))
WasPut (Err why) k files files' found found' =
    (f : File) × (f ≡ slice_index_or files k f) × (files' ≡ swap_remove files k f) × (found' ≡ with_missed why f.path found)
