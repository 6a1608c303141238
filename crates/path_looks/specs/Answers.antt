-- The meaning of the answer of a `stat` of a path. Our own. Only clauses of this crate's private functions cite this file.
use Rattle.std.specs.Prelude.{Option, Some, None, Result, Ok, Err}
use Rattle.outside.specs.declared.failures.Failed.{Failed}
use Rattle.outside.specs.declared.trees.Stat.{Stat}
use Rattle.path_looks.specs.declared.looks.Seen.{Seen}
use Rattle.path_looks.specs.declared.looks.Seen.TheVariants as seen

abbrev pub by_stat : Result (Option Stat) Failed → Seen
by_stat (Ok (Some stat)) = seen.At stat.mtime
by_stat (Ok None) = seen.Absent
by_stat (Err failed) = seen.Failed
