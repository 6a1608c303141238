use Rattle.files_mem.proofs.Prelude.{rules, ◌≡◌, sym, subst, AreNames, IsTree, names_in, children_are_names}
use Rattle.files_mem.proofs.readers.MemReaderTree.list.Goals as goal

pub returns-clause-names : goal.returns-clause-names
returns-clause-names c =
    let tree : IsTree c.args.self.now.files = subst (λ m. IsTree m.files) c.self.view_is c.self.invariant in
    let names : c.set_rest.new.self.0 ≡ names_in c.args.self.now.files c.args.path.now = search rules in
    subst (AreNames c.args.path.now) (sym names) (children_are_names c.args.self.now.files c.args.path.now tree)
