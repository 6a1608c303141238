use Rattle.circle_run.proofs.Prelude.{◌<◌, arith, length, choice, standing, Follows}
use Rattle.circle_run.specs.declared.steps.Did.TheVariants.{Handled as DidHandle}
use Rattle.circle_run.proofs.Stepped.{came_handled}
use Rattle.circle_run.proofs.Choosing.{follows_handled}
use Rattle.circle_run.proofs.ranks.RankState.go_on.Goals as goal

pub returns-then-len-gt0-clause-came : goal.returns-then-len-gt0-clause-came
returns-then-len-gt0-clause-came g c =
    let r = c.args.self.now in
    let ready = c.requires.ready in
    let x = standing c.args.ring r in
    let some : 0 < length r.queue = omega (arith, c.if-len-gt0.true, c.len.ensures) in
    came_handled g.J.Job.log g.J.Job.plain g.P.Post.shows g.P.Post.tells g.P.Post.seats (Follows DidHandle r.me (choice r.options.ranks x)) _ _ _
    (λ path kids. follows_handled r.options.ranks r.me x path kids some) c.requires.may ready.knows ready.seat ready.none ready.live some
    (g.met.P.Post.agrees c.args.post.now c.args.self.now.seat ready.seat) c.requires.unasked c.handle_newest.ensures.newest
