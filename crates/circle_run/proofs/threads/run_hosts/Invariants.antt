use Rattle.circle_run.proofs.Prelude.{◌≡◌, ℕ, ◌+◌, ◌≤◌, [], length, All, vec_capacity, sum_by, into_iter_items, into_iter_len, IsHost, AreDone, pooled_numbers}
use Rattle.circle_run.proofs.Prelude.{started_numbers, IsStarted, HasRoom, Pooled}
use Rattle.circle_run.proofs.threads.run_hosts.Given as goal

abbrev pub invariant-loop-ranks : goal.invariant-loop-ranks
invariant-loop-ranks g l = record {
  len : into_iter_len l.ranks-iterator ≡ length (into_iter_items l.ranks-iterator);
  flags : l.k + length (into_iter_items l.ranks-iterator) ≡ length l.fn.others.items;
  pooled : Pooled g.J.Job.log g.J.Job.plain g.P.Post.shows g.P.Post.seats g.Q.Sums.shows g.Q.Sums.seats l.fn.whole.value.items l.fn.post l.fn.sums l.pool;
  room : HasRoom (length l.fn.whole.value.items) (length l.fn.others.items) l.pool;
  few : length l.pool.started.items + length (into_iter_items l.ranks-iterator) ≤ length l.fn.others.items;
  none : l.pool.all.items ≡ [];
  rest : All (λ host. IsHost l.fn.whole.value.items host.items) (into_iter_items l.ranks-iterator);
  numbers : (h : ℕ → ℕ) → pooled_numbers h l.pool + sum_by (λ host. sum_by (λ r. h r.me) host.items) (into_iter_items l.ranks-iterator)
      ≡ sum_by (λ r. h r.me) l.fn.whole.value.items;
}

abbrev pub invariant-loop-host : goal.invariant-loop-host
invariant-loop-host g l = record {
  len : into_iter_len l.host-iterator ≡ length (into_iter_items l.host-iterator);
  at : l.at ≡ l.fn.post;
  counts : l.counts ≡ l.fn.sums;
  all : AreDone g.J.Job.log g.J.Job.plain g.P.Post.shows g.P.Post.seats g.Q.Sums.shows g.Q.Sums.seats l.fn.whole.value.items l.fn.post l.fn.sums l.all.items;
  started : All (IsStarted l.fn.whole.value.items l.fn.post l.fn.sums) (into_iter_items l.host-iterator);
  room : length l.fn.whole.value.items ≤ vec_capacity l.all;
  numbers : (h : ℕ → ℕ) → sum_by (λ r. h r.me) l.all.items + started_numbers h (into_iter_items l.host-iterator)
      ≡ sum_by (λ r. h r.me) l.fn.whole.value.items;
}
