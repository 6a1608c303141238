use Rattle.circle_run.proofs.Prelude.{rules, ◌≡◌, sym, subst, MayRun}
use Rattle.circle_run.proofs.threads.finish.Goals as goal

pub run_host-requires : goal.run_host-requires
run_host-requires g c = (let e : c.in-Untouched.ranks.items ≡ c.args.started.before.value.items = search rules in
    subst (MayRun g.J.Job.log g.P.Post.shows g.P.Post.tells g.P.Post.seats g.Q.Sums.shows g.Q.Sums.tells g.Q.Sums.seats c.args.post.now
    c.args.sums.now) (sym e) c.requires.ready)
