use Rattle.path_text.proofs.Prelude.{◌≤◌, ◌-◌, length, position_or_len, is_escaped}
use Rattle.path_text.proofs.escaping.plain_blocks.Given as goal

abbrev pub invariant-loop-at : goal.invariant-loop-at
invariant-loop-at l = record {
  within : l.at ≤ length l.bytes;
  plain : l.at ≤ position_or_len is_escaped l.bytes;
}

abbrev pub decreases-loop-at : goal.decreases-loop-at
decreases-loop-at l = length l.bytes - l.at
