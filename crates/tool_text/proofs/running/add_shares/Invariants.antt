use Rattle.tool_text.proofs.Prelude.{◌≡◌, ◌++◌, drop, share_lines, share_lines_from}
use Rattle.tool_text.proofs.running.add_shares.Given as goal

-- with the lines of the ranks that are left all is there
abbrev pub invariant-loop-rank : goal.invariant-loop-rank
invariant-loop-rank l = record {
  added : l.draft.1 ++ share_lines_from l.rank (drop l.rank l.shares) ≡ l.fn.draft.1 ++ share_lines l.shares;
  stands : l.draft.0 ≡ l.fn.draft.0;
}
