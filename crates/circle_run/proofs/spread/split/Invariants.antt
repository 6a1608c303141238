use Rattle.circle_run.proofs.Prelude.{◌≡◌, ◌%◌, ◌==◌, All, length, sum_by, one_if, into_iter_items, into_iter_len}
use Rattle.circle_run.proofs.Parted.{Parting}
use Rattle.circle_run.proofs.spread.split.Given as goal

abbrev pub invariant-loop-rank : goal.invariant-loop-rank
invariant-loop-rank g l = record {
  len : into_iter_len l.rank-iterator ≡ length (into_iter_items l.rank-iterator);
  parted : Parting l.fn.whole.value.items l.fn.ranks.items l.chosen.items l.rest.items (into_iter_items l.rank-iterator);
  own : All (λ r. r.me % l.fn.hosts ≡ l.fn.host) l.chosen.items;
  left : sum_by (λ r. one_if (r.me % l.fn.hosts == l.fn.host)) l.rest.items ≡ 0;
}
