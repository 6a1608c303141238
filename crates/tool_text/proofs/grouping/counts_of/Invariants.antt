use Rattle.tool_text.proofs.Prelude.{◌≡◌, ◌≤◌, ◌*◌, ◌^◌, take}
use Rattle.tool_text.specs.Groups.{counts_of}
use Rattle.tool_text.proofs.grouping.counts_of.Given as goal

-- what was counted, where each file has less than 2^64 bytes
abbrev pub invariant-loop-k : goal.invariant-loop-k
invariant-loop-k l = record {
  counted : l.counts ≡ counts_of (take l.k l.groups.groups);
  below : l.counts.extra_bytes ≤ l.counts.files * 2 ^ 64;
}
