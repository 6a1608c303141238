use Rattle.run_entries.proofs.Saved.{beside_saved}
use Rattle.run_entries.proofs.saving.save_at.Goals as goal

pub returns-in-Ok-clause-rest : goal.returns-in-Ok-clause-rest
returns-in-Ok-clause-rest g c =
    let tree = g.G.Plot.tree in
    beside_saved c.args.path.now _ (tree c.args.files.now) (tree c.save.new.ground) c.in-Ok.ensures.told
