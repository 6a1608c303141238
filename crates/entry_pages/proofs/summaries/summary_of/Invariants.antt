use Rattle.entry_pages.proofs.Prelude.{◌≡◌, ◌≤◌, ◌*◌, ◌^◌, List, ℕ, [], take, summary_of, unpacked}
use Rattle.entry_pages.proofs.summaries.summary_of.Given as goal

-- what was counted, and that it is not much
abbrev pub invariant-loop : goal.invariant-loop
invariant-loop l = record {
  here : l.leads ≡ (l.fn.heads.0, l.counter);
  counted : (bytes : List ℕ) → l.sum ≡ summary_of (take l.counter (unpacked [] l.fn.heads.0 bytes));
  items : l.sum.items ≤ l.counter;
  dirs : l.sum.dirs ≤ l.counter;
  files : l.sum.files ≤ l.counter;
  links : l.sum.links ≤ l.counter;
  others : l.sum.others ≤ l.counter;
  small : l.sum.bytes ≤ 2 ^ 64 * l.counter;
  few : l.sum.failed ≤ 3 * l.counter;
}
