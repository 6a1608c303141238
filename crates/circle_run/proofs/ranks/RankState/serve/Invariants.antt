use Rattle.circle_run.proofs.Prelude.{Serving}
use Rattle.circle_run.proofs.ranks.RankState.serve.Given as goal

abbrev pub invariant-loop-k : goal.invariant-loop-k
invariant-loop-k g l = Serving g.J.Job.log g.P.Post.shows g.P.Post.tells g.P.Post.seats l.initial.self l.initial.post l.self l.post l.asks
    l.initial.lot l.lot l.k l.count
