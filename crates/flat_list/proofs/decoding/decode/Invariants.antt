use Rattle.flat_list.proofs.Prelude.{◌≡◌, ◌+◌, ◌≤◌, length, entry_lines, max_entries, lines_of, IsLast, IsSettled}
use Rattle.flat_list.proofs.Damage.{Stands}
use Rattle.flat_list.proofs.decoding.decode.Given as goal

-- the entries so far, the number of the next line, and what is left of the text
abbrev pub invariant-loop-text : goal.invariant-loop-text
invariant-loop-text l = record {
  stands : Stands l.version l.bytes l.list (lines_of l.rest);
  few : length l.list ≤ max_entries;
  last : IsLast l.last l.list;
  number : l.line ≡ length (entry_lines l.list) + 2;
  settled : IsSettled l.version l.last l.rest;
}

abbrev pub decreases-loop-text : goal.decreases-loop-text
decreases-loop-text l = length l.rest
