use Rattle.files_mem.proofs.Prelude.{rules, ap, ◌∙◌, sym, false≢true, is_at, insert, path_cmp, is_file, file, time_of, node_of}
use Rattle.files_mem.proofs.Kept.{node_here, none_here, valid_set, inserted}
use Rattle.files_mem.proofs.stores.Store.set_bytes.Goals as goal

pub returns-in_default : goal.returns-in_default
returns-in_default c =
    absurd (false≢true (ap is_file
    (sym (none_here c.self.inside.map.entries c.args.self.now c.args.path.now c.in_default.ensures.value c.self.view_is))
    ∙ c.requires))

pub invariant_of-self-2 : goal.invariant_of-self-2
invariant_of-self-2 c = rw (c.get_mut.follows.holds c.set_bytes.new.self).0
    (valid_set (is_at (path_cmp c.args.path.now)) c.self.inside.map.entries c.set_bytes.new.self c.self.invariant)

pub returns : goal.returns
returns c =
    let through = (c.get_mut.follows.holds c.set_bytes.new.self).3 (search rules) in
    let here = node_here c.self.inside.map.entries c.args.self.now c.args.path.now c.in-Some.node.now c.in-Some.ensures.value c.self.view_is in
    inserted c.self.inside.map.entries (c.get_mut.follows.lender c.set_bytes.new.self).entries c.args.path.now c.set_bytes.new.self through.0
    ∙ ap (λ f. insert f c.args.path.now (node_of c.set_bytes.new.self)) c.self.view_is
    ∙ ap (insert c.args.self.now c.args.path.now) c.set_bytes.ensures
    ∙ ap (λ o. insert c.args.self.now c.args.path.now (record { body = file c.args.bytes.items; mtime = time_of o })) (sym here)
