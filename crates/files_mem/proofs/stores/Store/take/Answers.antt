use Rattle.files_mem.proofs.Prelude.{ap, ◌∙◌, remove, is_at, path_cmp}
use Rattle.files_mem.proofs.Kept.{removed, valid_remove}
use Rattle.files_mem.proofs.stores.Store.take.Goals as goal

pub invariant_of-self : goal.invariant_of-self
invariant_of-self c = rw c.remove.ensures.entries (valid_remove (is_at (path_cmp c.args.path.now)) c.self.inside.map.entries c.self.invariant)

pub returns : goal.returns
returns c = removed c.self.inside.map.entries c.remove.new.self.entries c.args.path.now c.remove.ensures.updates.0
    ∙ ap (λ f. remove f c.args.path.now) c.self.view_is
