use Rattle.range_copy.proofs.Prelude.{◌≡◌, ◌+◌, ◌≤◌, ◌++◌, ℕ, List, map, vec_len, vec_capacity, pieces, AreLoads, spans_left, end_of}
use Rattle.range_copy.proofs.loads.load_all.Given as goal

-- the spans so far, from the last one on
abbrev pub invariant-loop-span : goal.invariant-loop-span
invariant-loop-span g l = record {
  spans : l.spans.items ++ spans_left l.loads.items ≡ l.fn.spans.items;
  loads : (path : List ℕ) → map g.S.Span.piece l.fn.spans.items ≡ pieces path l.cuts → AreLoads g.S.Span.piece (end_of l.cuts) l.loads.items;
  room : vec_len l.spans + vec_len l.loads ≤ vec_capacity l.loads;
}

abbrev pub decreases-loop-span : goal.decreases-loop-span
decreases-loop-span g l = vec_len l.spans
