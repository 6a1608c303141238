-- Counts of faults: numbers that never fall and stop at 2^64 - 1. Our own.
use Rattle.std.specs.Prelude.{◌≡◌, ℕ, ◌+◌, ◌-◌, ◌^◌, ◌<◌, ◌≤◌, min}

-- k faults were counted from old to new, or the count is at its end
pub record RoseBy (k old new : ℕ) : Type 0 where
  pub kept : old ≤ new
  pub rose : min (old + k) (2 ^ 64 - 1) ≤ new

-- nothing was counted, and the count is not at its end
pub record StoodStill (old new : ℕ) : Type 0 where
  pub same : new ≡ old
  pub below_end : new < 2 ^ 64 - 1

-- two counts together
abbrev pub capped : ℕ → ℕ → ℕ
capped a b = min (a + b) (2 ^ 64 - 1)
