use Rattle.circle_run.proofs.Prelude.{rules, arith, ◌≡◌, ap, sum_by, sum_by-append, HostRan}
use Rattle.circle_run.proofs.Joined.{ready_of, done_numbers}
use Rattle.circle_run.proofs.Pooling.{pooled_start, pooled_mine, pooled_done}
use Rattle.circle_run.proofs.threads.add_host.Goals as goal

pub start-requires-clause-host : goal.start-requires-clause-host
start-requires-clause-host g c κs within = record {
  untold = c.requires.untold.0;
  sums_untold = c.requires.untold.1;
  order = c.requires.ranks.order;
  ready = ready_of g.J.Job.log g.J.Job.plain g.P.Post.shows g.P.Post.seats g.Q.Sums.shows g.Q.Sums.seats c.args.whole.now.value.items c.args.post c.args.sums
      c.args.ranks.items c.requires.ready c.requires.ranks.ones;
}

pub returns-in-Ok-clause-pooled : goal.returns-in-Ok-clause-pooled
returns-in-Ok-clause-pooled g c =
    let is = c.in-Ok.ensures.started in
    pooled_start g.J.Job.log g.J.Job.plain g.P.Post.shows g.P.Post.seats g.Q.Sums.shows g.Q.Sums.seats c.args.whole.now.value.items c.args.post c.args.sums
    c.args.pool.now _ c.in-Ok.host c.args.ranks.items c.requires.pooled c.requires.ranks is.0 is.1 is.2 c.add_one.ensures.items

pub returns-in-Err-Untouched-clause-pooled : goal.returns-in-Err-Untouched-clause-pooled
returns-in-Err-Untouched-clause-pooled g c =
    let same : c.in-Err-Untouched.ranks.items ≡ c.args.ranks.items = search rules in
    pooled_mine g.J.Job.log g.J.Job.plain g.P.Post.shows g.P.Post.seats g.Q.Sums.shows g.Q.Sums.seats c.args.whole.now.value.items c.args.post c.args.sums
    c.args.pool.now _ c.args.ranks.items c.in-Err-Untouched.ranks.items c.requires.pooled c.requires.ranks same c.add_all.ensures.items

pub returns-in-Err-Ran-clause-pooled : goal.returns-in-Err-Ran-clause-pooled
returns-in-Err-Ran-clause-pooled g c =
    let ran : HostRan g.J.Job.log g.J.Job.plain g.P.Post.shows g.P.Post.seats g.Q.Sums.shows g.Q.Sums.seats c.args.post c.args.sums c.args.ranks.items
    c.in-Err-Ran.ranks.items = search rules in
    pooled_done g.J.Job.log g.J.Job.plain g.P.Post.shows g.P.Post.seats g.Q.Sums.shows g.Q.Sums.seats c.args.whole.now.value.items c.args.post c.args.sums
    c.args.pool.now _ c.args.ranks.items c.in-Err-Ran.ranks.items c.requires.pooled c.requires.ranks ran c.add_all-in-Err-Ran.ensures.items

pub returns-in-Err-Ran-clause-numbers : goal.returns-in-Err-Ran-clause-numbers
returns-in-Err-Ran-clause-numbers g c = λ h.
    let ran : HostRan g.J.Job.log g.J.Job.plain g.P.Post.shows g.P.Post.seats g.Q.Sums.shows g.Q.Sums.seats c.args.post c.args.sums c.args.ranks.items
    c.in-Err-Ran.ranks.items = search rules in
    omega (
      arith,
      done_numbers g.J.Job.log g.J.Job.plain g.P.Post.shows g.P.Post.seats g.Q.Sums.shows g.Q.Sums.seats c.args.post c.args.sums c.args.ranks.items
          c.in-Err-Ran.ranks.items ran h,
      ap (sum_by (λ r. h r.me)) c.add_all-in-Err-Ran.ensures.items,
      sum_by-append (λ r. h r.me) c.args.pool.now.done.items c.in-Err-Ran.ranks.items,
    )
