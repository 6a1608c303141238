-- Counts of faults of several readers. Our own.
use Rattle.std.specs.Prelude.{◌≡◌, ℕ, ◌+◌, ◌-◌, ◌^◌, ◌<◌, ◌≤◌, Bool, false, List, [], ◌∷◌, sum, nat_le}
use Rattle.std.specs.List.{list_any}

-- as many counts, none of which fell
abbrev pub NoneFell : List ℕ → List ℕ → Type 0
NoneFell [] [] = Unit {0}
NoneFell [] (n ∷ new) = ⊥
NoneFell (m ∷ old) [] = ⊥
NoneFell (m ∷ old) (n ∷ new) = (m ≤ n) × NoneFell old new

-- a count is at its end
abbrev pub is_at_end : List ℕ → Bool
is_at_end counts = list_any (nat_le (2 ^ 64 - 1)) counts

-- so many faults were counted together from old to new, or a count is at its end
abbrev pub RoseTogether : ℕ → List ℕ → List ℕ → Type 0
RoseTogether k old new = is_at_end new ≡ false → sum old + k ≤ sum new

-- one count went from old to new while the reported faults went from before to after, or it is at its end
pub record KeepsUp (before after old new : ℕ) : Type 0 where
  pub kept : old ≤ new
  pub rose : new < 2 ^ 64 - 1 → old + after ≤ new + before

-- the same of several counts together
abbrev pub KeepUp : ℕ → ℕ → List ℕ → List ℕ → Type 0
KeepUp before after old new = is_at_end new ≡ false → sum old + after ≤ sum new + before
