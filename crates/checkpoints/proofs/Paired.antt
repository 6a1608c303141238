-- A left string and its number as a pair.
use Rattle.checkpoints.proofs.Prelude.{ℕ, List, Left}

abbrev pub pair : Left → ℕ × List ℕ
pair l = (l.number, l.path.now)
