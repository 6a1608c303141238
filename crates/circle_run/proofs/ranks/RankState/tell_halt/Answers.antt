use Rattle.circle_run.proofs.Prelude.{ap, sym, refl, rules, Shown, halt, halt_if, Halts}
use Rattle.circle_run.proofs.Winding.{halt_told}
use Rattle.circle_run.proofs.Called.{came_noted}
use Rattle.circle_run.proofs.ranks.RankState.tell_halt.Goals as goal

pub returns-then-due-clause-came : goal.returns-then-due-clause-came
returns-then-due-clause-came g c =
    let call = c.halt.ensures in
    came_noted g.J.Job.log g.J.Job.plain g.P.Post.shows g.P.Post.tells g.P.Post.seats (Halts c.args.due) _ _ _ _ halt
    (record { before = c.requires.knows; none = c.requires.none; knows = search rules; same = refl })
    (record { mine = call.mine; others = call.others; still = call.still; serves = ap (λ (s : Shown). s.serves) call.shown })
    (ap halt_if (sym c.if-due.true))
    (record {
      silent = refl;
      may = λ found. c.requires.due c.if-due.true found;
      told = call.told;
      book = refl;
      queue = refl;
      draws = refl;
      batches = ap (λ (s : Shown). s.batches) call.shown;
    })

pub returns-then-due-clause-told : goal.returns-then-due-clause-told
returns-then-due-clause-told g c = λ due.
    halt_told (g.P.Post.shows c.args.self.now.seat).number (g.P.Post.tells c.args.post.now) (g.P.Post.tells c.halt.new.self) c.halt.ensures.told
