use Rattle.tool_text.proofs.Prelude.{◌≡◌, ◌++◌, take, path_lines}
use Rattle.tool_text.proofs.grouping.add_paths.Given as goal

abbrev pub invariant-loop-path : goal.invariant-loop-path
invariant-loop-path l = record {
  added : l.draft.1 ≡ l.fn.draft.1 ++ path_lines (take l.path-index l.paths);
  stands : l.draft.0 ≡ l.fn.draft.0;
}
