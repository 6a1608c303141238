use Rattle.circle_run.proofs.Prelude.{arith, length, All, ap, sym, subst, ◌∙◌, sum_by, IsOne, HasRoom}
use Rattle.circle_run.proofs.Places.{ones}
use Rattle.circle_run.proofs.threads.run_all.Goals as goal

pub make-requires : goal.make-requires
make-requires g c = record {
  few =
      (let n = c.requires.numbers (λ k. 1) in let m = c.requires.count in
      omega (arith, n, m, ones c.args.mine.items, ones c.args.whole.now.value.items));
}

pub run_hosts-requires-clause-mine : goal.run_hosts-requires-clause-mine
run_hosts-requires-clause-mine g c κs within = subst (All (IsOne c.args.whole.now.value.items)) (sym c.in_ok-pool.ensures.first) c.requires.mine.ones

pub run_hosts-requires-clause-room : goal.run_hosts-requires-clause-room
run_hosts-requires-clause-room g c κs within =
    subst (λ n. HasRoom n (length c.args.others.items) c.in_ok-pool.pool) c.requires.count
    (subst (λ n. HasRoom c.args.count n c.in_ok-pool.pool) (c.len.ensures ∙ c.args.others.ok.0) c.in_ok-pool.ensures.room)

pub run_hosts-requires-clause-numbers : goal.run_hosts-requires-clause-numbers
run_hosts-requires-clause-numbers g c κs within =
    λ h. (let e = ap (sum_by (λ r. h r.me)) c.in_ok-pool.ensures.first in let n = c.requires.numbers h in omega arith)
