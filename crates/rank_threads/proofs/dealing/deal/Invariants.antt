use Rattle.rank_threads.proofs.Prelude.{◌≡◌, ◌-◌, Some, All, fresh, IsSeat, shown_by, unused, Fits}
use Rattle.sum_tree.specs.TreeSeats.{IsSeat as IsSumSeat, shown_by as sums_shown}
use Rattle.sum_tree.specs.Plain.{fresh as fresh_sum}
use Rattle.rank_threads.proofs.Firsts.{Firsts}
use Rattle.rank_threads.proofs.dealing.deal.Given as goal

abbrev pub invariant-loop-k : goal.invariant-loop-k
invariant-loop-k l = record {
  seats : Firsts (λ k s. IsSeat l.place.board.now s × (shown_by s ≡ fresh l.options.ranks k (Some (unused l.options.ranks))))
      (l.options.ranks - l.k) l.seats.items;
  sums : Firsts (λ k s. IsSumSeat l.place.sums.now s × (sums_shown s ≡ fresh_sum l.options.ranks l.options.width k)) (l.options.ranks - l.k) l.sums_seats.items;
  lasts : Firsts (λ k s. IsSumSeat l.place.lasts.now s × (sums_shown s ≡ fresh_sum l.options.ranks l.options.width k))
      (l.options.ranks - l.k) l.last_seats.items;
  fit : All Fits l.workers.items;
}
