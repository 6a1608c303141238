use Rattle.circle_lists.proofs.Prelude.{◌≡◌, ◌≤◌, length, map, RoseBy, IsRank}
use Rattle.circle_lists.proofs.Told.{Told}
use Rattle.circle_lists.proofs.reading.read_lists.Given as goal

-- the lists so far were read
abbrev pub invariant-loop-rank : goal.invariant-loop-rank
invariant-loop-rank g l = record {
  told : Told l.dir l.ranks (map (λ list. list.items) l.lists.items) (g.R.Tree.tree l.fn.reader);
  count_is : length l.lists.items ≡ l.rank;
  within : l.rank ≤ l.ranks;
  some : 1 ≤ l.rank;
  few : IsRank 0 l.ranks;
  same : g.R.Tree.tree l.reader ≡ g.R.Tree.tree l.fn.reader;
  count : RoseBy 0 (g.R.Tree.count l.fn.reader) (g.R.Tree.count l.reader);
}
