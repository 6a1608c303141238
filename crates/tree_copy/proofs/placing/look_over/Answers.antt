use Rattle.tree_copy.proofs.Overlaps.{no_parent}
use Rattle.tree_copy.proofs.placing.look_over.Goals as goal

pub returns-in_default-clause-told : goal.returns-in_default-clause-told
returns-in_default-clause-told g c = absurd (no_parent _ _ _ c.text.ensures.valid c.requires c.in_ok-parent.ensures c.in_default.is)

pub returns-in_default-clause-means : goal.returns-in_default-clause-means
returns-in_default-clause-means g c = absurd (no_parent _ _ _ c.text.ensures.valid c.requires c.in_ok-parent.ensures c.in_default.is)
