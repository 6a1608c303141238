use Rattle.entry_pages.proofs.Prelude.{◌≡◌, ◌≤◌, ◌*◌, ◌^◌, take, sum_by, path_len}
use Rattle.entry_pages.proofs.summaries.path_bytes.Given as goal

-- what was counted, and that it is not much
abbrev pub invariant-loop : goal.invariant-loop
invariant-loop l = record {
  here : l.leads ≡ (l.fn.heads.0, l.counter);
  counted : l.bytes ≡ sum_by path_len (take l.counter l.fn.heads.0);
  small : l.bytes ≤ 2 ^ 17 * l.counter;
}
