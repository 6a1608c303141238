use Rattle.checkpoints.proofs.Read.{starved}
use Rattle.checkpoints.proofs.reading.read_left.Goals as goal

pub returns-in_default-clause-stopped : goal.returns-in_default-clause-stopped
returns-in_default-clause-stopped g c =
    starved c.args.dir.now (g.G.Plot.tree c.args.files.now) (g.G.Plot.count c.args.files.now) (g.G.Plot.count c.reader.new.self)
