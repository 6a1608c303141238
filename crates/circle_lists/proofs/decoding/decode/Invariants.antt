use Rattle.circle_lists.proofs.Prelude.{◌+◌, ◌<◌, ◌≤◌, ◌^◌, length, lines_of}
use Rattle.circle_lists.proofs.Damage.{Stands}
use Rattle.circle_lists.proofs.decoding.decode.Given as goal

-- the paths so far, and what is left of the text
abbrev pub invariant-loop-text : goal.invariant-loop-text
invariant-loop-text l = record {
  stands : Stands (record { bytes = l.bytes; rank = l.rank; known = l.fn.known }) l.ranks l.paths.items (lines_of l.rest);
  room : length l.paths.items + length l.rest + 3 ≤ length l.bytes;
  small : length l.bytes < 2 ^ 64;
}

abbrev pub decreases-loop-text : goal.decreases-loop-text
decreases-loop-text l = length l.rest
