use Rattle.path_text.proofs.Prelude.{◌≡◌, ◌≤◌, ◌++◌, length, take, escape}
use Rattle.path_text.proofs.escaping.append_escaped.Given as goal

-- what was put and what is left
abbrev pub invariant-loop-at : goal.invariant-loop-at
invariant-loop-at l = record {
  put : l.text.items ++ escape l.rest ≡ l.fn.text.items ++ escape l.bytes;
  kept : take (length l.fn.text.items) l.text.items ≡ l.fn.text.items;
  longer : length l.fn.text.items ≤ length l.text.items;
  shorter : length l.rest ≤ length l.bytes;
}

abbrev pub decreases-loop-at : goal.decreases-loop-at
decreases-loop-at l = length l.rest
