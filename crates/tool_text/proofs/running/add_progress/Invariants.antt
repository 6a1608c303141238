use Rattle.tool_text.proofs.Prelude.{◌≡◌, ◌++◌, take, progress_lines}
use Rattle.tool_text.proofs.running.add_progress.Given as goal

abbrev pub invariant-loop-sum : goal.invariant-loop-sum
invariant-loop-sum l = record {
  added : l.draft.1 ≡ l.fn.draft.1 ++ progress_lines (take l.sum-index l.sums);
  stands : l.draft.0 ≡ l.fn.draft.0;
}
