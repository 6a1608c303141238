use Rattle.flat_list.proofs.Prelude.{◌≡◌, ◌-◌, ◌≤◌, length}
use Rattle.flat_list.proofs.Encoded.{Written}
use Rattle.flat_list.proofs.encoding.encode.Given as goal

-- what is written of the entries that were passed
abbrev pub invariant-loop-cursor : goal.invariant-loop-cursor
invariant-loop-cursor l = record {
  of_list : l.cursor.0 ≡ l.list;
  inside : l.cursor.1 ≤ length l.list;
  written : Written l.text.items l.list l.cursor.1;
}

abbrev pub decreases-loop-cursor : goal.decreases-loop-cursor
decreases-loop-cursor l = length l.list - l.cursor.1
