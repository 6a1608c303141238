use Rattle.circle_run.proofs.Prelude.{◌≡◌, length, Some, None, Told, NoneLost, AreAll, KeptByEach, AllAlone, Options}
use Rattle.circle_run.proofs.Playing.{Going}
use Rattle.circle_run.proofs.Rounds.{InRound}
use Rattle.circle_run.proofs.hosts.Host.run.Given as goal

abbrev pub invariant-loop-k : goal.invariant-loop-k
invariant-loop-k g l = record {
  round : InRound g.J.Job.log g.J.Job.plain g.P.Post.shows g.P.Post.tells g.P.Post.seats g.Q.Sums.shows g.Q.Sums.seats l.fn.self
      l.ranks.items l.done l.post l.sums;
  end : l.k-end ≡ length l.fn.self;
  ran : NoneLost l.ranks.items → (o : Options) (t : Told) → AreAll o l.fn.self → g.P.Post.tells l.fn.post ≡ Some t
      → Going g.J.Job.log g.J.Job.plain g.P.Post.shows g.P.Post.tells g.P.Post.seats
      (KeptByEach o l.fn.self l.ranks.items) o t l.fn.self l.ranks.items l.post l.k;
  still : g.P.Post.tells l.fn.post ≡ None → l.post ≡ l.fn.post;
  sums_still : g.Q.Sums.tells l.fn.sums ≡ None → l.sums ≡ l.fn.sums;
  alone : g.P.Post.tells l.fn.post ≡ None → (g.P.Post.tells l.post ≡ None)
      × AllAlone g.J.Job.log g.P.Post.shows l.fn.self l.ranks.items;
}

abbrev pub invariant-loop : goal.invariant-loop
invariant-loop g l = record {
  next : (goal.iterator-loop g).can_next l.iterator';
  finite : (goal.iterator-loop g).is_finite l.iterator';
  round : InRound g.J.Job.log g.J.Job.plain g.P.Post.shows g.P.Post.tells g.P.Post.seats g.Q.Sums.shows g.Q.Sums.seats l.fn.self
      l.ranks.items l.done l.post l.sums;
  ran : NoneLost l.ranks.items → (o : Options) (t : Told) → AreAll o l.fn.self → g.P.Post.tells l.fn.post ≡ Some t
      → Going g.J.Job.log g.J.Job.plain g.P.Post.shows g.P.Post.tells g.P.Post.seats
      (KeptByEach o l.fn.self l.ranks.items) o t l.fn.self l.ranks.items l.post 0;
  still : g.P.Post.tells l.fn.post ≡ None → l.post ≡ l.fn.post;
  sums_still : g.Q.Sums.tells l.fn.sums ≡ None → l.sums ≡ l.fn.sums;
  alone : g.P.Post.tells l.fn.post ≡ None → (g.P.Post.tells l.post ≡ None)
      × AllAlone g.J.Job.log g.P.Post.shows l.fn.self l.ranks.items;
}
