use Rattle.files_mem.proofs.Prelude.{◌≡◌, ◌++◌, true, map, drop, ascends_above, pieces_from, blank}
use Rattle.files_mem.proofs.spans.spans_behind.Given as goal

abbrev pub invariant-loop-cut : goal.invariant-loop-cut
invariant-loop-cut l = record {
  made : l.spans.items ++ map (blank l.tells l.fails) (pieces_from l.path l.at (drop l.cut-index l.rest))
      ≡ map (blank l.tells l.fails) (pieces_from l.path l.first l.rest);
  up : ascends_above l.at (drop l.cut-index l.rest) ≡ true;
}
