use Rattle.outside.proofs.Saved.{cleared}
use Rattle.outside.proofs.saving.clear.Goals as goal

pub returns-in_ok-remove_file-clause-told : goal.returns-in_ok-remove_file-clause-told
returns-in_ok-remove_file-clause-told g c = cleared _ _ _ _ c.in_ok-remove_file.ensures.told
