use Rattle.circle_run.proofs.Prelude.{sym, subst, IsAscending, AllReady, HostRan}
use Rattle.circle_run.proofs.backs.run_host.Goals as goal

pub run-requires-clause-order : goal.run-requires-clause-order
run-requires-clause-order g c = subst IsAscending (sym c.make.ensures) c.requires.order

pub run-requires-clause-ready : goal.run-requires-clause-ready
run-requires-clause-ready g c =
    subst (λ xs. AllReady g.J.Job.log g.P.Post.shows g.P.Post.seats g.Q.Sums.shows g.Q.Sums.seats xs c.args.post.now c.args.sums.now)
    (sym c.make.ensures) c.requires.ready

pub returns-clause-ran : goal.returns-clause-ran
returns-clause-ran g c =
    let r = c.run.ensures in
    let p = r.still c.requires.untold in
    let q = r.sums_still c.requires.sums_untold in
    subst (λ xs. HostRan g.J.Job.log g.J.Job.plain g.P.Post.shows g.P.Post.seats g.Q.Sums.shows g.Q.Sums.seats c.args.post.now
    c.args.sums.now xs c.run.result.items) c.make.ensures
    (subst (λ y. HostRan g.J.Job.log g.J.Job.plain g.P.Post.shows g.P.Post.seats g.Q.Sums.shows g.Q.Sums.seats c.args.post.now y
    c.make.result c.run.result.items) q
    (subst (λ x. HostRan g.J.Job.log g.J.Job.plain g.P.Post.shows g.P.Post.seats g.Q.Sums.shows g.Q.Sums.seats x c.run.new.sums
    c.make.result c.run.result.items) p
    record { ended = r.ended; same = r.same; alone = (r.alone c.requires.untold).1 }))

pub returns-clause-still : goal.returns-clause-still
returns-clause-still g c = (c.run.ensures.still c.requires.untold, c.run.ensures.sums_still c.requires.sums_untold)
