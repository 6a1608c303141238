use Rattle.circle_run.proofs.Prelude.{◌≡◌, map, flat_map}
use Rattle.circle_run.proofs.parts.Parts.of.Given as goal

abbrev pub invariant-loop-rank : goal.invariant-loop-rank
invariant-loop-rank g l = record {
  jobs : l.jobs.items ≡ map (λ r. r.job) l.yielded;
  seats : l.seats.items ≡ map (λ r. r.seat) l.yielded;
  sums_seats : l.sums_seats.items ≡ map (λ r. r.sums_seat) l.yielded;
  left : map (λ v. v.items) l.left.items ≡ map (λ r. r.queue) l.yielded;
  shares : l.shares.items ≡ map (λ r. r.book.share) l.yielded;
  numbers : l.numbers.items ≡ flat_map (λ r. r.book.sums.items) l.yielded;
}
