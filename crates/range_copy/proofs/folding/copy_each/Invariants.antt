use Rattle.range_copy.proofs.Prelude.{◌≡◌, take, count_by, RoseBy, nothing_lent, is_failed, HasCause, AreRows}
use Rattle.range_copy.proofs.Folded.{Folded, Numbers}
use Rattle.range_copy.proofs.folding.copy_each.Given as goal

-- the files so far
abbrev pub invariant-loop-entry : goal.invariant-loop-entry
invariant-loop-entry g l = record {
  folded : Folded l.pairs l.failed.set.keys (take l.entry-index l.large) l.tally.rows.items (g.G.Plot.tree l.fn.ground) (g.G.Plot.tree l.ground);
  numbers : Numbers (take l.entry-index l.large) l.tally.rows.items l.tally.copied l.tally.bytes;
  blamed : RoseBy (count_by (λ row. is_failed row.1) l.tally.rows.items) (g.G.Plot.count l.fn.ground) (g.G.Plot.count l.ground);
  shown : AreRows (HasCause g.G.Reader.Tree.gives g.G.Part.Plot.gives g.G.Plot.gives g.G.Plot.area g.G.Plot.count l.pairs)
      (take l.entry-index l.large) l.tally.rows.items;
  lent : g.G.Plot.area l.ground ≡ nothing_lent;
}
