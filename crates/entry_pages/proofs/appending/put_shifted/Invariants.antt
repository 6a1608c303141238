use Rattle.entry_pages.proofs.Prelude.{◌≡◌, ◌+◌, ◌-◌, ◌≤◌, ◌++◌, map, take, length, vec_len, vec_capacity}
use Rattle.entry_pages.proofs.appending.put_shifted.Given as goal

-- what was passed was put, and there is room for the others
abbrev pub invariant-loop-start : goal.invariant-loop-start
invariant-loop-start l = record {
  put : l.starts.items ≡ l.fn.starts.items ++ map (λ start. l.base + start) (take l.start-index l.more);
  room : vec_len l.starts + (length l.more - l.start-index) ≤ vec_capacity l.starts;
}
