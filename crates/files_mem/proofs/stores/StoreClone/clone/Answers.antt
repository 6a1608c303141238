use Rattle.files_mem.proofs.Prelude.{◌∙◌}
use Rattle.files_mem.proofs.Kept.{same_files, valid_copy}
use Rattle.files_mem.proofs.stores.StoreClone.clone.Goals as goal

pub invariant_of-result : goal.invariant_of-result
invariant_of-result c = valid_copy c.self.inside.map.entries c.in_ok-clone.field-0.entries c.in_ok-clone.ensures.cases c.self.invariant

pub returns : goal.returns
returns c = record { cases = same_files c.self.inside.map.entries c.in_ok-clone.field-0.entries c.in_ok-clone.ensures.cases ∙ c.self.view_is }
