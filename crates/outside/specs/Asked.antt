-- Calls of a reader and calls that write, each with its answer. Our own, after the operations and their results of a transition
-- system with labels.
use Rattle.std.specs.Prelude.{ℕ, List, Option, Result}
use Rattle.outside.specs.declared.failures.Failed.{Failed}
use Rattle.outside.specs.declared.trees.Stat.{Stat}
use Rattle.outside.specs.declared.trees.ListError.{ListError}
use Rattle.outside.specs.declared.trees.ReadError.{ReadError}
use Rattle.outside.specs.declared.trees.LinkError.{LinkError}
use Rattle.outside.specs.declared.plots.WriteError.{WriteError}

-- a call of a reader at a path, with its answer: a read names its offset too
pub data Asked : Type 0 where
  stat : List ℕ → Result (Option Stat) Failed → Asked
  list : List ℕ → Result (List (List ℕ) × ℕ × ℕ) ListError → Asked
  read : List ℕ → ℕ → Result ℕ ReadError → Asked
  read_link : List ℕ → Result (List ℕ) LinkError → Asked

-- a call that writes: with its text, if it makes a link, and with bytes and their offset, if it writes bytes
pub data Write : Type 0 where
  make_dir : Write
  make_file : Write
  make_link : List ℕ → Write
  write_at : ℕ → List ℕ → Write
  remove_file : Write
  remove_dir : Write

-- which answers an object may give, and which state a call leaves
abbrev pub Asks : Type 0 → Type 1
Asks S = S → Asked → S → Type 0

-- the same of calls that write at a path
abbrev pub Writes : Type 0 → Type 1
Writes S = S → List ℕ → Write → Result (Unit {0}) WriteError → S → Type 0
