use Rattle.tool_text.proofs.Prelude.{◌≡◌, take, counts_of}
use Rattle.tool_text.proofs.comparing.counts_of.Given as goal

-- what was counted
abbrev pub invariant-loop-k : goal.invariant-loop-k
invariant-loop-k l = l.counts ≡ counts_of (take l.k l.rows.rows)
