use Rattle.range_copy.proofs.Prelude.{◌+◌, ◌*◌, ◌<◌, ◌≤◌, ◌++◌, length, sum_by, vec_capacity, spans_left, spans_of, AreBlamed, faults_of, AreFilledBy}
use Rattle.range_copy.proofs.Showing.{SoFarRead}
use Rattle.range_copy.proofs.Worked.{Filling}
use Rattle.range_copy.proofs.turns.fill_all.Given as goal

-- the spans that were dealt so far are filled
abbrev pub invariant-loop-fillers : goal.invariant-loop-fillers
invariant-loop-fillers g l = record {
  filling : Filling g.T.Tree.tree g.S.Span.piece g.S.Span.holds l.source l.total l.fn.fillers (spans_left l.fn.loads.items) l.fillers l.loads.items
      l.done.items (l.done.items ++ spans_of l.fillers);
  blamed : AreBlamed (faults_of g.T.Tree.count g.S.Span.count l.fillers (l.done.items ++ spans_of l.fillers)) l.fillers;
  read : SoFarRead g.T.Tree.gives g.S.Span.piece g.S.Span.count l.source l.fillers (l.done.items ++ spans_of l.fillers);
  shown : AreFilledBy g.T.Tree.gives l.source (sum_by g.S.Span.count (l.done.items ++ spans_of l.fillers)) l.fillers;
  some : 0 < length l.fillers;
  room : vec_capacity l.fn.done ≤ vec_capacity l.done;
}

abbrev pub decreases-loop-fillers : goal.decreases-loop-fillers
decreases-loop-fillers g l = length (spans_of l.fillers) + 2 * length l.loads.items
