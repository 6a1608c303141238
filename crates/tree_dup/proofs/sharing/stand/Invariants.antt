use Rattle.tree_dup.proofs.Prelude.{◌≡◌, ℕ, ◌<◌, ◌≤◌, length, get_or, File, Standing}
use Rattle.tree_dup.proofs.sharing.stand.Given as goal

abbrev pub invariant-loop-k : goal.invariant-loop-k
invariant-loop-k l = record {
  as_many : length l.run.items ≡ length l.fn.run.items;
  done : (j : ℕ) (d : File) (s : Standing) → j < l.k → get_or l.run.items j d ≡ record (get_or l.fn.run.items j d) { standing = get_or l.standings j s };
  left : (j : ℕ) (d : File) → l.k ≤ j → get_or l.run.items j d ≡ get_or l.fn.run.items j d;
}
