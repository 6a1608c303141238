use Rattle.circle_run.proofs.Prelude.{Taken, unserved}
use Rattle.circle_run.proofs.ranks.RankState.take_up.Given as goal

abbrev pub invariant-loop-to : goal.invariant-loop-to
invariant-loop-to g l = Taken g.J.Job.log g.P.Post.shows g.P.Post.tells g.P.Post.seats l.initial.self l.initial.post l.self l.post l.asks l.count

abbrev pub decreases-loop-to : goal.decreases-loop-to
decreases-loop-to g l = unserved (g.P.Post.shows l.self.seat).serves
