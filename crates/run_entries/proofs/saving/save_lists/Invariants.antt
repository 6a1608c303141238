use Rattle.run_entries.proofs.Prelude.{◌≡◌, take, RoseBy, nothing_lent, Saved}
use Rattle.run_entries.proofs.saving.save_lists.Given as goal

-- the outputs so far were saved
abbrev pub invariant-loop-output : goal.invariant-loop-output
invariant-loop-output g l = record {
  saved : Saved (take l.output-index l.outputs) (g.G.Plot.tree l.fn.files) (g.G.Plot.tree l.files);
  lent : g.G.Plot.area l.files ≡ nothing_lent;
  count : RoseBy 0 (g.G.Plot.count l.fn.files) (g.G.Plot.count l.files);
}
