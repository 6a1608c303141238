use Rattle.circle_run.proofs.Prelude.{◌≡◌, ℕ, ◌<◌, ◌++◌, [], map, length, get_or, All, into_iter_items, into_iter_len, IsNew}
use Rattle.circle_run.proofs.parts.new_ranks.Given as goal

abbrev pub invariant-loop-job : goal.invariant-loop-job
invariant-loop-job g l = record {
  jobs : l.fn.jobs.items ≡ map (λ r. r.job) l.ranks.items ++ into_iter_items l.job-iterator;
  seats : l.fn.seats.items ≡ map (λ r. r.seat) l.ranks.items ++ into_iter_items l.seats_left;
  sums : l.fn.sums_seats.items ≡ map (λ r. r.sums_seat) l.ranks.items ++ into_iter_items l.sums_left;
  queues : l.fn.queues.items ≡ map (λ r. r.queue) l.ranks.items ++ into_iter_items l.queues_left;
  seats_left : into_iter_len l.seats_left ≡ into_iter_len l.job-iterator;
  sums_left : into_iter_len l.sums_left ≡ into_iter_len l.job-iterator;
  queues_left : into_iter_len l.queues_left ≡ into_iter_len l.job-iterator;
  fresh : All (λ job. g.J.Job.log job ≡ []) (into_iter_items l.job-iterator);
  me : l.me ≡ length l.ranks.items;
  new : (k : ℕ) (d : _) → k < length l.ranks.items → let r = get_or l.ranks.items k d in IsNew r.job r.seat r.sums_seat r.queue l.options k r;
  unused : (k : ℕ) (d : _) → k < length l.ranks.items → g.J.Job.log (get_or l.ranks.items k d).job ≡ [];
}
