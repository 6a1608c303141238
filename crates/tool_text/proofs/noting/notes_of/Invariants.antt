use Rattle.tool_text.proofs.Prelude.{◌≡◌, ◌≤◌, ◌-◌, length, take, notes_of}
use Rattle.tool_text.proofs.noting.notes_of.Given as goal

abbrev pub invariant-loop-cursor : goal.invariant-loop-cursor
invariant-loop-cursor l = record {
  list : l.cursor.0 ≡ l.list;
  inside : l.cursor.1 ≤ length l.cursor.0;
  noted : l.notes.items ≡ notes_of (take l.cursor.1 l.cursor.0);
}

abbrev pub decreases-loop-cursor : goal.decreases-loop-cursor
decreases-loop-cursor l = length l.cursor.0 - l.cursor.1
