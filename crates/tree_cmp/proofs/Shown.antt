-- The answer of a read for which bytes are missed.
use Rattle.tree_cmp.proofs.Prelude.{◌≡◌, ℕ, ◌+◌, ◌<◌, List, Ok, Err, subst, inl, inr, arith, Asks, ReadError, ShowsWhole, Changed, missing, ShowsMissing}
use Rattle.outside.specs.Asked as asked
use Rattle.outside.specs.declared.trees.ReadError.TheVariants as read

module _ {S : Type 0} (gives : Asks S) where
  -- a read was refused
  pub refused : (path : List ℕ) (at : ℕ) (why : ReadError) (before after : S) → gives before (asked.read path at (Err why)) after
      → ShowsMissing gives path (missing why)
  refused path at read.Failed before after g = record { at = at; after = after; read = record { before = before; given = g } }
  refused path at read.NotFile before after g = record { at = at; after = after; read = inr (record { before = before; given = g }) }

  -- a read gave no byte
  pub ended : (path : List ℕ) (at n : ℕ) (before after : S) → n ≡ 0 → gives before (asked.read path at (Ok n)) after → ShowsMissing gives path Changed
  ended path at n before after e g = record {
    at = at;
    after = after;
    read = inl (record { before = before; given = subst (λ k. gives before (asked.read path at (Ok k)) after) e g });
  }

  -- a read gave some bytes
  pub gave : (path : List ℕ) (at done n : ℕ) (before after : S) → 0 < n → gives before (asked.read path (at + done) (Ok n)) after →
      ShowsWhole gives (at + (done + n)) path
  gave path at done n before after some g = record {
    at = at + done;
    bytes = n;
    some = some;
    ends = omega arith;
    after = after;
    read = record { before = before; given = g };
  }
