use Rattle.range_copy.proofs.Prelude.{arith, ◌∙◌, get_or, refl, slice_get-get_or, length_set}
use Rattle.range_copy.proofs.Dealt.{room_for, turn_ends, turn_starts, turn_steps}
use Rattle.range_copy.proofs.turns.turn.Goals as goal

pub loop-i-init : goal.loop-i-init
loop-i-init g c = record {
  turning = turn_starts g.S.Span.piece c.args.fillers.now c.args.loads.now.items c.args.done.now.items;
  len = refl;
  room = omega arith;
}

pub put-requires : goal.put-requires
put-requires g c =
    let i = c.loop-i.invariant in
    let one = get_or c.loop-i.fillers c.loop-i.i c.index-fillers-i.result in
    let at = slice_get-get_or c.loop-i.fillers c.loop-i.i c.index-fillers-i.result (omega (arith, c.loop-i-test.true, c.loop-i.auto, i.len)) in
    let room = room_for g.S.Span.piece c.args.fillers.now c.args.loads.now.items c.args.done.now.items c.loop-i.i _ c.loop-i.fillers
    c.loop-i.loads.items c.loop-i.done.items one c.hand-last.result at c.hand-last.ensures.last c.requires.room i.turning in
    record { room = omega (arith, room, i.room) }

pub loop-i-preserved : goal.loop-i-preserved
loop-i-preserved g c =
    let i = c.loop-i.invariant in
    let one = get_or c.loop-i.fillers c.loop-i.i c.index-fillers-i.result in
    let at = slice_get-get_or c.loop-i.fillers c.loop-i.i c.index-fillers-i.result (omega (arith, c.loop-i-test.true, c.loop-i.auto, i.len)) in
    record {
      turning = turn_steps g.S.Span.piece c.args.fillers.now c.args.loads.now.items c.args.done.now.items c.loop-i.i c.loop-i.fillers
          c.loop-i.loads.items c.loop-i.done.items one c.hand-last.new.one c.next_of-next.result c.hand-last.result
          c.next_of-next.new.loads.items c.put.new.done.items at (record {
            next_is = c.next_of-next.ensures.last;
            none = c.next_of-next.ensures.none;
            last_is = c.hand-last.ensures.last;
            has = c.hand-last.ensures.next;
            reader = c.hand-last.ensures.reader;
            filled = c.hand-last.ensures.filled;
            put = c.put.ensures.items;
          }) i.turning;
      len = length_set c.loop-i.fillers c.loop-i.i c.hand-last.new.one ∙ i.len;
      room = omega (arith, c.put.ensures.room, i.room);
    }

pub returns-clause-turn : goal.returns-clause-turn
returns-clause-turn g c =
    let i = c.loop-i.invariant in
    λ total are. turn_ends g.S.Span.piece c.args.fillers.now c.args.loads.now.items c.args.done.now.items c.loop-i.i total c.loop-i.fillers
    c.loop-i.loads.items c.loop-i.done.items c.requires.some i.len (omega (arith, c.loop-i-test.false, c.loop-i.auto, i.len)) are i.turning
