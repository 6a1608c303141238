use Rattle.circle_run.proofs.Prelude.{◌≡◌, length, Some, Told, NoneWrote, AreAll, KeptInOrder, Options}
use Rattle.circle_run.proofs.Playing.{Going}
use Rattle.circle_run.proofs.Rounds.{InRound}
use Rattle.circle_run.proofs.hosts.Host.run_traced.Given as goal

abbrev pub invariant-loop-k : goal.invariant-loop-k
invariant-loop-k g l = record {
  round : InRound g.J.Job.log g.J.Job.plain g.P.Post.shows g.P.Post.tells g.P.Post.seats g.Q.Sums.shows g.Q.Sums.seats l.fn.self
      l.ranks.items l.done l.post l.sums;
  end : l.k-end ≡ length l.fn.self;
  wrote : NoneWrote l.ranks.items;
  ran : (o : Options) (t : Told) → AreAll o l.fn.self → g.P.Post.tells l.fn.post ≡ Some t
      → Going g.J.Job.log g.J.Job.plain g.P.Post.shows g.P.Post.tells g.P.Post.seats
      (KeptInOrder o l.events.items) o t l.fn.self l.ranks.items l.post l.k;
}

abbrev pub invariant-loop : goal.invariant-loop
invariant-loop g l = record {
  next : (goal.iterator-loop g).can_next l.iterator';
  finite : (goal.iterator-loop g).is_finite l.iterator';
  round : InRound g.J.Job.log g.J.Job.plain g.P.Post.shows g.P.Post.tells g.P.Post.seats g.Q.Sums.shows g.Q.Sums.seats l.fn.self
      l.ranks.items l.done l.post l.sums;
  wrote : NoneWrote l.ranks.items;
  ran : (o : Options) (t : Told) → AreAll o l.fn.self → g.P.Post.tells l.fn.post ≡ Some t
      → Going g.J.Job.log g.J.Job.plain g.P.Post.shows g.P.Post.tells g.P.Post.seats
      (KeptInOrder o l.events.items) o t l.fn.self l.ranks.items l.post 0;
}
