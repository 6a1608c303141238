use Rattle.tool_text.proofs.Prelude.{◌≡◌, ◌++◌, take, group_lines}
use Rattle.tool_text.proofs.grouping.add_group_lines.Given as goal

abbrev pub invariant-loop-k : goal.invariant-loop-k
invariant-loop-k l = record {
  added : l.draft.1 ≡ l.fn.draft.1 ++ group_lines (take l.k l.groups.groups);
  stands : l.draft.0 ≡ l.fn.draft.0;
}
