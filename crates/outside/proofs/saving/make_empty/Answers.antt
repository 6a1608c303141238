use Rattle.outside.proofs.Saved.{made}
use Rattle.outside.proofs.saving.make_empty.Goals as goal

pub returns-clause-told : goal.returns-clause-told
returns-clause-told g c = made _ _ _ _ _ c.in_ok-make_file.ensures.told
