use Rattle.level_work.proofs.Prelude.{◌∙◌}
use Rattle.level_work.proofs.Sets.{is_there}
use Rattle.level_work.proofs.failures.Paths.has.Goals as goal

pub returns : goal.returns
returns c = c.contains.ensures ∙ is_there c.args.self.now.set.keys c.args.path.now
