use Rattle.files_mem.proofs.Prelude.{rules, ◌≤◌, length, ap, ◌∙◌, sym, subst, false≢true, is_at, path_cmp, is_file, content}
use Rattle.files_mem.proofs.Kept.{node_here, none_here, valid_set, wrote, wrote_not}
use Rattle.files_mem.proofs.stores.Store.write.Goals as goal

pub returns-in_default-clause-ok : goal.returns-in_default-clause-ok
returns-in_default-clause-ok c =
    absurd (false≢true (ap is_file
    (sym (none_here c.self.inside.map.entries c.args.self.now c.args.path.now c.in_default.ensures.value c.self.view_is))
    ∙ c.requires.file))

pub write-requires-clause-file : goal.write-requires-clause-file
write-requires-clause-file c =
    ap is_file (sym (node_here c.self.inside.map.entries c.args.self.now c.args.path.now c.in-Some.node.now c.in-Some.ensures.value
    c.self.view_is)) ∙ c.requires.file

pub write-requires-clause-place : goal.write-requires-clause-place
write-requires-clause-place c =
    subst (λ o. c.args.at ≤ length (content o))
    (node_here c.self.inside.map.entries c.args.self.now c.args.path.now c.in-Some.node.now c.in-Some.ensures.value c.self.view_is)
    c.requires.place

pub invariant_of-self-2 : goal.invariant_of-self-2
invariant_of-self-2 c = rw (c.get_mut.follows.holds c.write.new.self).0
    (valid_set (is_at (path_cmp c.args.path.now)) c.self.inside.map.entries c.write.new.self c.self.invariant)

pub returns-clause-ok : goal.returns-clause-ok
returns-clause-ok c =
    let through = (c.get_mut.follows.holds c.write.new.self).3 (search rules) in
    wrote c.write.result c.self.inside.map.entries
    (c.get_mut.follows.lender c.write.new.self).entries c.args.self.now c.args.path.now c.in-Some.node.now c.write.new.self c.args.at
    c.args.bytes.now c.self.view_is
    (node_here c.self.inside.map.entries c.args.self.now c.args.path.now c.in-Some.node.now c.in-Some.ensures.value c.self.view_is)
    through.0 c.write.ensures.ok

pub returns-clause-err : goal.returns-clause-err
returns-clause-err c =
    let through = (c.get_mut.follows.holds c.write.new.self).3 (search rules) in
    wrote_not c.write.result c.self.inside.map.entries
    (c.get_mut.follows.lender c.write.new.self).entries c.args.self.now c.args.path.now c.in-Some.node.now c.write.new.self
    c.self.view_is (node_here c.self.inside.map.entries c.args.self.now c.args.path.now c.in-Some.node.now c.in-Some.ensures.value
    c.self.view_is) through.0 c.write.ensures.err
