-- Left strings with their numbers. Our own. Only clauses of this crate's own functions cite this file.
use Rattle.std.specs.Prelude.{List, map}
use Rattle.checkpoints.specs.declared.placing.Left.{Left}
use Rattle.checkpoints.specs.Passing.{Numbered}

abbrev pub numbered : List Left → Numbered
numbered lefts = map (λ l. (l.number, l.path.now)) lefts
