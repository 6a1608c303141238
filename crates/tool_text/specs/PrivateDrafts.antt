-- What only private clauses cite of a text in the making. Our own.
use Rattle.std.specs.Prelude.{◌≡◌, ℕ, List, ◌++◌, Result, OnOk}

-- a call adds this behind the finished part, which stays; after an error it may have added a part of it
pub record Adds {X E : Type 0} (more : List ℕ) (old new : List ℕ × List ℕ) (result : Result X E) : Type 0 where
  pub ok : OnOk result (new.1 ≡ old.1 ++ more)
  pub stands : new.0 ≡ old.0
