use Rattle.shared_reads.proofs.Prelude.{arith, ◌≡◌, List, [], ◌∷◌, ◌++◌, length, length-append, map, ap, sym, subst, ◌∙◌, All, reverse, All-push, Worker}
use Rattle.shared_reads.proofs.Prelude.{HasRoom, IsIdle}
use Rattle.shared_reads.proofs.Hired.{moved, unpushed}
use Rattle.shared_reads.proofs.hiring.hired.Goals as goal

pub loop-desk-preserved : goal.loop-desk-preserved
loop-desk-preserved g c =
    let i = c.loop-desk.invariant in
    let w : Worker g.row.R.Denot g.row.O.Denot = record { reader = c.in-Some-pop.reader; desk = c.in-Some.desk; found = c.new-found.result } in
    let desks : c.loop-desk.desks.items ≡ c.pop.new.self.items ++ c.in-Some.desk ∷ [] = c.in-Some.ensures.items in
    let readers : c.loop-desk.readers.items ≡ c.pop-in-Some.new.self.items ++ c.in-Some-pop.reader ∷ [] = c.in-Some-pop.ensures.items in
    let workers : c.push.new.self.items ≡ c.loop-desk.workers.items ++ w ∷ [] = c.in-Ok.ensures.items in
    let rooms = unpushed HasRoom c.pop.new.self.items c.in-Some.desk (subst (All HasRoom) desks i.rooms) in
    record {
      number = omega (
        arith,
        i.number,
        ap length desks,
        ap length workers,
        length-append c.pop.new.self.items (c.in-Some.desk ∷ []),
        length-append c.loop-desk.workers.items (w ∷ []),
      );
      rooms = rooms.0;
      idle = subst (All IsIdle) (sym workers) (All-push IsIdle c.loop-desk.workers.items w i.idle
          (record { none = c.new-found.ensures.items; room = rooms.1 }));
      readers = ap (λ (ws : List (Worker g.row.R.Denot g.row.O.Denot)). c.pop-in-Some.new.self.items ++ reverse (map (λ w. w.reader) ws)) workers
          ∙ sym (moved (λ (w : Worker g.row.R.Denot g.row.O.Denot). w.reader) c.pop-in-Some.new.self.items c.loop-desk.workers.items w)
          ∙ ap (λ rs. rs ++ reverse (map (λ w. w.reader) c.loop-desk.workers.items)) (sym readers) ∙ i.readers;
      room = omega (arith, c.in-Ok.ensures.len, c.in-Ok.ensures.capacity, c.in-Some.ensures.cases, i.room);
      back = omega (arith, c.in-Ok.ensures.len, c.in-Some-pop.ensures.cases, c.in-Some-pop.ensures.capacity, i.back);
    }
