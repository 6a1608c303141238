use Rattle.rank_threads.proofs.Prelude.{◌≡◌, ◌-◌, ◌+◌, Some, All, sym, subst, ap, arith, All-push, fresh, IsSeat, shown_by, unused, SumShown, Fits}
use Rattle.sum_tree.specs.TreeSeats.{IsSeat as IsSumSeat, shown_by as sums_shown}
use Rattle.sum_tree.specs.Plain.{fresh as fresh_sum}
use Rattle.rank_threads.proofs.Firsts.{before, last_of}
use Rattle.rank_threads.proofs.dealing.deal.Goals as goal

pub make-requires-clause-seat : goal.make-requires-clause-seat
make-requires-clause-seat c =
    let t = c.loop-k-test.true in
    last_of (λ k s. IsSeat c.args.place.board.now s × (shown_by s ≡ fresh c.args.options.now.ranks k (Some (unused c.args.options.now.ranks)))) _
    (c.args.options.now.ranks - 1 - c.loop-k.k) _ _ _ c.loop-k.invariant.seats (omega arith) c.in-Some.ensures.items

pub make-requires-clause-sums : goal.make-requires-clause-sums
make-requires-clause-sums c =
    let t = c.loop-k-test.true in
    last_of (λ k s. IsSumSeat c.args.place.sums.now s × (sums_shown s ≡ fresh_sum c.args.options.now.ranks c.args.options.now.width k)) _
    (c.args.options.now.ranks - 1 - c.loop-k.k) _ _ _ c.loop-k.invariant.sums (omega arith) c.in-Some-pop.ensures.items

pub make-requires-clause-last : goal.make-requires-clause-last
make-requires-clause-last c =
    let t = c.loop-k-test.true in
    let at = last_of (λ k s. IsSumSeat c.args.place.lasts.now s × (sums_shown s ≡ fresh_sum c.args.options.now.ranks c.args.options.now.width k)) _
    (c.args.options.now.ranks - 1 - c.loop-k.k) _ _ _ c.loop-k.invariant.lasts (omega arith) c.in-Some-pop-2.ensures.items in
    (at.0, ap (λ (s : SumShown). s.answer) at.1)

pub loop-k-preserved : goal.loop-k-preserved
loop-k-preserved c =
    let t = c.loop-k-test.true in
    record {
      seats = before (λ k s. IsSeat c.args.place.board.now s × (shown_by s ≡ fresh c.args.options.now.ranks k (Some (unused c.args.options.now.ranks)))) _
          (c.args.options.now.ranks - (c.loop-k.k + 1)) _ _ _ c.loop-k.invariant.seats (omega arith) c.in-Some.ensures.items;
      sums = before (λ k s. IsSumSeat c.args.place.sums.now s × (sums_shown s ≡ fresh_sum c.args.options.now.ranks c.args.options.now.width k)) _
          (c.args.options.now.ranks - (c.loop-k.k + 1)) _ _ _ c.loop-k.invariant.sums (omega arith) c.in-Some-pop.ensures.items;
      lasts = before (λ k s. IsSumSeat c.args.place.lasts.now s × (sums_shown s ≡ fresh_sum c.args.options.now.ranks c.args.options.now.width k)) _
          (c.args.options.now.ranks - (c.loop-k.k + 1)) _ _ _ c.loop-k.invariant.lasts (omega arith) c.in-Some-pop-2.ensures.items;
      fit = subst (All Fits) (sym c.in_ok-push.ensures.items)
          (All-push Fits c.loop-k.workers.items c.in_ok-make.field-0 c.loop-k.invariant.fit c.in_ok-make.ensures);
    }
