use Rattle.level_work.proofs.Prelude.{arith, length, ap, length_push, into_iter_items}
use Rattle.level_work.proofs.Hands.{rest_more, home_more}
use Rattle.level_work.proofs.hiring.hired.Goals as goal

pub loop-actor-preserved : goal.loop-actor-preserved
loop-actor-preserved g c =
    let i = c.loop-actor.invariant in
    let next = c.in-Some.ensures.steps in
    let new = c.in-Ok.ensures.items in
    record {
      actors = rest_more (λ l. l.actor) _ c.loop-actor.lots.items c.push.new.self.items c.idle.result c.in-Some.actor
          (into_iter_items c.loop-actor.actor-iterator) (into_iter_items c.next.new.self) next.0 c.idle.ensures.actor new i.actors;
      home = home_more c.loop-actor.lots.items c.push.new.self.items c.idle.result new c.idle.ensures.part i.home;
      gone = i.gone;
      len = omega (arith, i.len, next.1, ap length next.0);
      room = omega (arith, i.room, next.1, c.in-Ok.ensures.len, c.in-Ok.ensures.capacity);
      back = omega (arith, i.back, next.1, ap length new, length_push c.loop-actor.lots.items c.idle.result);
    }
