use Rattle.files_mem.proofs.Prelude.{ap, ◌∙◌, insert, node_of}
use Rattle.files_mem.proofs.Kept.{inserted, valid_insert}
use Rattle.files_mem.proofs.stores.Store.put.Goals as goal

pub invariant_of-self-2 : goal.invariant_of-self-2
invariant_of-self-2 c = rw c.in_ok-insert.ensures.entries (valid_insert c.self.inside.map.entries c.args.path c.args.node c.text.ensures.valid c.self.invariant)

pub returns-clause-ok : goal.returns-clause-ok
returns-clause-ok c = inserted c.self.inside.map.entries c.insert.new.self.entries c.args.path c.args.node c.in_ok-insert.ensures.updates.0
    ∙ ap (λ f. insert f c.args.path (node_of c.args.node)) c.self.view_is
