use Rattle.circle_run.proofs.Prelude.{◌≡◌, ℕ, ◌+◌, ◌%◌, ◌<◌, ◌≤◌, ◌==◌, All, sum_by, IsHost, one_if}
use Rattle.circle_run.proofs.spread.spread.Given as goal

abbrev pub invariant-loop-host : goal.invariant-loop-host
invariant-loop-host g l = record {
  left : IsHost l.fn.whole.value.items l.left.items;
  own : (j : ℕ) → 1 ≤ j → j < l.host → sum_by (λ r. one_if (r.me % l.fn.hosts == j)) l.left.items ≡ 0;
  others : All (λ host. IsHost l.fn.whole.value.items host.items) l.others.items;
  numbers : (h : ℕ → ℕ) → sum_by (λ r. h r.me) l.left.items + sum_by (λ host. sum_by (λ r. h r.me) host.items) l.others.items
      ≡ sum_by (λ r. h r.me) l.fn.ranks.items;
}
