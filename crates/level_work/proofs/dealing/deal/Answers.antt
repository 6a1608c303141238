use Rattle.level_work.proofs.Prelude.{arith, rules, slice_get-get_or}
use Rattle.level_work.proofs.Deals.{dealt_none, dealt_on, fresh_on, turn_none, turn_on, seats_on, all_dealt}
use Rattle.level_work.proofs.dealing.deal.Goals as goal

pub loop-t-init : goal.loop-t-init
loop-t-init g c = record {
  seats = c.clear.ensures.seats;
  dealt = dealt_none _ _ _ _ _ (λ i lot at. (c.clear.ensures.empty i lot at).0);
  turn = turn_none c.args.places.now _ (λ i lot at. (c.clear.ensures.empty i lot at).0);
  fresh = λ i lot at. ((c.clear.ensures.empty i lot at).1, (c.clear.ensures.empty i lot at).2);
}

pub deal_one-requires-clause-inside : goal.deal_one-requires-clause-inside
deal_one-requires-clause-inside g c = c.requires.places.below c.loop-t.t _ (slice_get-get_or c.args.places.now c.loop-t.t 0 c.loop-t-test.true)

pub returns-in_err-deal_one-clause-seats : goal.returns-in_err-deal_one-clause-seats
returns-in_err-deal_one-clause-seats g c = seats_on _ _ _ c.loop-t.invariant.seats c.deal_one.ensures.seats

pub loop-t-preserved : goal.loop-t-preserved
loop-t-preserved g c =
    let at = slice_get-get_or c.args.places.now c.loop-t.t 0 c.loop-t-test.true in
    record {
      seats = seats_on _ _ _ c.loop-t.invariant.seats c.deal_one.ensures.seats;
      dealt = dealt_on c.args.order c.args.items.now c.args.fates.now c.args.places.now c.loop-t.lots c.deal_one.new.lots c.loop-t.t _ _ at
          c.requires.places.once c.in_ok-deal_one.ensures.dealt c.loop-t.invariant.dealt;
      turn = turn_on c.args.order c.args.items.now c.args.fates.now c.args.places.now c.loop-t.lots c.deal_one.new.lots c.loop-t.t _ _ at
          c.requires.places.once c.in_ok-deal_one.ensures.dealt c.loop-t.invariant.dealt (search rules) c.loop-t.invariant.turn;
      fresh = fresh_on c.args.order c.args.items.now c.args.fates.now c.args.places.now c.loop-t.lots c.deal_one.new.lots c.loop-t.t _ _ at
          c.requires.places.once c.in_ok-deal_one.ensures.dealt c.loop-t.invariant.fresh;
    }

pub returns-clause-shares : goal.returns-clause-shares
returns-clause-shares g c =
    all_dealt c.args.order c.args.level c.loop-t.t c.args.items.now c.args.fates.now c.args.places.now c.loop-t.lots
    c.tops_are_nested.ensures c.requires.items c.requires.places
    (omega (arith, c.loop-t-test.false, c.loop-t.auto)) c.loop-t.invariant.dealt
