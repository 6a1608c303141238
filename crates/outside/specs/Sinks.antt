-- The bytes that a sink has taken. Our own.
use Rattle.std.specs.Prelude.{◌≡◌, ℕ, ◌≤◌, List, ◌++◌, length, take}

-- new is old and the front of these bytes, up to all of them
abbrev pub GrewByPrefix : List ℕ → List ℕ → List ℕ → Type 0
GrewByPrefix bytes old new = (n : ℕ) × (n ≤ length bytes) × (new ≡ old ++ take n bytes)

-- a sink in memory: the bytes that it took, how many it takes in all, and its count of faults
pub record InMemory : Type 0 where
  pub text : List ℕ
  pub limit : ℕ
  pub count : ℕ
