use Rattle.circle_run.proofs.Prelude.{ap, subst, sym, ◌∙◌, length, Ready}
use Rattle.circle_run.proofs.Tallied.{turned, turned_after, ready_after}
use Rattle.circle_run.proofs.ranks.Rank.turn.Goals as goal

pub returns-clause-turned : goal.returns-clause-turned
returns-clause-turned g c =
    let r = c.self.inside.state in
    rw (← c.self.view_is) (
    turned g.J.Job.log g.J.Job.heard g.J.Job.plain g.P.Post.shows g.P.Post.tells g.P.Post.seats c.work-did.result c.as_turn.result r
    c.args.post.now c.work-did.new.self c.work-did.new.post c.tally.new.self c.settle-2.new.queue
    c.as_turn.ensures (sym c.is_done-done.ensures ∙ c.if-done.false) c.work-did.ensures.came c.tally.ensures.same c.tally.ensures.book
    c.tally.ensures.lost c.settle-2.ensures.kept)

pub returns-then-done-clause-turned : goal.returns-then-done-clause-turned
returns-then-done-clause-turned g c =
    let r = c.self.inside.state in
    let done = c.finish-turn.ensures in
    rw (← c.self.view_is) (
    turned_after g.J.Job.log g.J.Job.heard g.J.Job.plain g.P.Post.shows g.P.Post.tells g.P.Post.seats c.finish-turn.result r c.args.post.now
    c.finish-turn.new.self c.settle.new.queue
    (sym c.is_done-done.ensures ∙ c.if-done.true) done.same done.book done.lost c.settle.ensures.kept)

pub returns-then-done-clause-ready : goal.returns-then-done-clause-ready
returns-then-done-clause-ready g c =
    let r = c.self.inside.state in
    let done = c.finish-turn.ensures in
    let was = subst (λ (x : _). Ready g.J.Job.log g.P.Post.shows g.P.Post.seats g.Q.Sums.shows g.Q.Sums.seats x c.args.post.now c.args.sums.now)
    (sym c.self.view_is) c.requires.ready in
    ready_after g.J.Job.log g.P.Post.shows g.P.Post.seats g.Q.Sums.shows g.Q.Sums.seats r c.args.post.now c.args.sums.now c.finish-turn.new.self
    c.finish-turn.new.sums
    c.settle.new.queue done.same (ap (λ (b : _). b.share) done.book) done.lost c.settle.ensures.lost c.settle.ensures.kept
    (done.ready (length (g.J.Job.log r.job)) was.sums) was
