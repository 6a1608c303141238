use Rattle.circle_lists.proofs.Prelude.{◌≡◌, ◌<◌, ℕ, length, map, RoseBy, nothing_lent, HasPlace}
use Rattle.circle_lists.proofs.Saved.{Wrote}
use Rattle.circle_lists.proofs.writing.write_lists.Given as goal

-- the lists so far were written
abbrev pub invariant-loop-rank : goal.invariant-loop-rank
invariant-loop-rank g l = record {
  wrote : Wrote l.dir (length l.left) (map (λ list. list.items) l.left) l.rank (g.G.Plot.tree l.fn.ground) (g.G.Plot.tree l.ground);
  places : (rank : ℕ) → rank < l.rank → HasPlace l.dir (g.G.Plot.tree l.fn.ground) rank;
  lent : g.G.Plot.area l.ground ≡ nothing_lent;
  count : RoseBy 0 (g.G.Plot.count l.fn.ground) (g.G.Plot.count l.ground);
}
