use Rattle.circle_run.proofs.Prelude.{◌≡◌, ℕ, ◌<◌, false, get_or}
use Rattle.circle_run.specs.declared.ranks.RankState.{RankState}
use Rattle.circle_run.proofs.many_hosts.any_lost.Given as goal

abbrev pub invariant-loop-k : goal.invariant-loop-k
invariant-loop-k g l = (j : ℕ) (d : RankState _ _ _) → j < l.k → (get_or l.fn.ranks j d).book.lost ≡ false
