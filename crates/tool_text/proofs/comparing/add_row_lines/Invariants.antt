use Rattle.tool_text.proofs.Prelude.{◌≡◌, ◌++◌, take, row_lines}
use Rattle.tool_text.proofs.comparing.add_row_lines.Given as goal

abbrev pub invariant-loop-k : goal.invariant-loop-k
invariant-loop-k l = record {
  added : l.draft.1 ≡ l.fn.draft.1 ++ row_lines (take l.k l.rows.rows);
  stands : l.draft.0 ≡ l.fn.draft.0;
}
