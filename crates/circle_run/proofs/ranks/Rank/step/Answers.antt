use Rattle.circle_run.proofs.Prelude.{refl, true}
use Rattle.circle_run.proofs.Asked.{true_not_false}
use Rattle.circle_run.proofs.Turning.{took_ready, skipped}
use Rattle.circle_run.proofs.ranks.Rank.step.Goals as goal

pub returns-then-done-clause-took : goal.returns-then-done-clause-took
returns-then-done-clause-took g c =
    skipped g.J.Job.log g.J.Job.plain g.P.Post.shows g.P.Post.tells g.P.Post.seats c.args.self.now c.args.post.now
    (g.met.P.Post.agrees c.args.post.now c.args.self.now.seat c.requires.ready.mine) c.requires.ready.knows
    (c.requires.over c.if-done.true).0

pub returns-in-Ended-clause-placed : goal.returns-in-Ended-clause-placed
returns-in-Ended-clause-placed g c =
    record { ready = c.turn.ensures.ready; over = λ e. c.in-Ended.ensures.ended refl; going = λ e. absurd (true_not_false true refl e) }

pub returns-in-Ended-clause-took : goal.returns-in-Ended-clause-took
returns-in-Ended-clause-took g c =
    took_ready g.J.Job.log g.J.Job.heard g.J.Job.plain g.P.Post.shows g.P.Post.tells g.P.Post.seats g.Q.Sums.shows g.Q.Sums.seats
    c.turn.result _ _ _ _ _ _ g.met.P.Post.agrees c.requires.ready c.turn.ensures.ready c.turn.ensures.waits c.turn.ensures.stopped
    c.turn.ensures.goes c.turn.ensures.turned

pub returns-in_default-clause-placed : goal.returns-in_default-clause-placed
returns-in_default-clause-placed g c = record {
  ready = c.turn.ensures.ready;
  over = λ e. absurd (true_not_false c.args.done.now e c.if-done.false);
  going = λ e. c.turn.ensures.unfinished c.in_default.not-Ended;
}

pub returns-in_default-clause-took : goal.returns-in_default-clause-took
returns-in_default-clause-took g c =
    took_ready g.J.Job.log g.J.Job.heard g.J.Job.plain g.P.Post.shows g.P.Post.tells g.P.Post.seats g.Q.Sums.shows g.Q.Sums.seats
    c.turn.result _ _ _ _ _ _ g.met.P.Post.agrees c.requires.ready c.turn.ensures.ready c.turn.ensures.waits c.turn.ensures.stopped
    c.turn.ensures.goes c.turn.ensures.turned
