use Rattle.tool_text.proofs.Prelude.{◌≡◌, ◌++◌, take, note_lines}
use Rattle.tool_text.proofs.noting.add_notes.Given as goal

abbrev pub invariant-loop-note : goal.invariant-loop-note
invariant-loop-note l = record {
  added : l.draft.1 ≡ l.fn.draft.1 ++ note_lines (take l.note-index l.notes);
  stands : l.draft.0 ≡ l.fn.draft.0;
}
