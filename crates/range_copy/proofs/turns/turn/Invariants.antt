use Rattle.range_copy.proofs.Prelude.{◌≡◌, ◌≤◌, length, vec_capacity}
use Rattle.range_copy.proofs.Dealt.{Turning}
use Rattle.range_copy.proofs.turns.turn.Given as goal

abbrev pub invariant-loop-i : goal.invariant-loop-i
invariant-loop-i g l = record {
  turning : Turning g.S.Span.piece l.fn.fillers l.fn.loads.items l.fn.done.items l.i l.fillers l.loads.items l.done.items;
  len : length l.fillers ≡ length l.fn.fillers;
  room : vec_capacity l.fn.done ≤ vec_capacity l.done;
}
