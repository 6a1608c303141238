use Rattle.tree_cmp.proofs.Prelude.{arith}
use Rattle.tree_cmp.proofs.Counted.{first_is, alike}
use Rattle.tree_cmp.proofs.lending.lent_readers.Goals as goal

pub returns-clause-alike : goal.returns-clause-alike
returns-clause-alike g c =
    alike g.G.Reader.Tree.tree c.in_ok-readers.readers.items (g.G.Plot.tree c.args.files.now)
    (omega (arith, c.in_ok-readers.ensures.number, c.requires)) c.in_ok-readers.ensures.told

pub returns-clause-told : goal.returns-clause-told
returns-clause-told g c =
    first_is g.G.Reader.Tree.tree c.in_ok-readers.readers.items (g.G.Plot.tree c.args.files.now)
    (omega (arith, c.in_ok-readers.ensures.number, c.requires)) c.in_ok-readers.ensures.told
