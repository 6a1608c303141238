-- Workers that share the places of a job. Our own.
-- Only clauses of this crate's own functions cite this file.
use Rattle.std.specs.Prelude.{◌≡◌, ℕ, [], Option, All}
use Rattle.outside.specs.Count.{RoseBy}
use Rattle.outside.specs.Tree.{Files}
use Rattle.shared_reads.specs.declared.sharing.Worker.{Worker}
use Rattle.shared_reads.specs.Desks.{HasRoom}
use Rattle.shared_reads.specs.Kept.{IsTold, all_faults}

-- a worker that found nothing yet
pub record IsIdle {R O : Type 0} (w : Worker R O) : Type 0 where
  pub none : w.found.items ≡ []
  pub room : HasRoom w.desk

module _ {R O : Type 0} (tree : R → Option Files) (count : R → ℕ) (told : Option Files → ℕ → O → Type 0) (faults : O → ℕ) where
  -- the work of a worker: its outcomes, its reader and its desk afterwards
  pub record IsWorked (w w' : Worker R O) : Type 0 where
    pub found : All (IsTold (told (tree w.reader))) w'.found.items
    pub same : tree w'.reader ≡ tree w.reader
    pub counted : RoseBy (all_faults faults w'.found.items) (count w.reader) (count w'.reader)
    pub room : HasRoom w'.desk
