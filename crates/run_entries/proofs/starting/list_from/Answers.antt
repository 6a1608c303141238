use Rattle.run_entries.proofs.Prelude.{subst, sym, IfOk, roots, start_in, side_of, Listed, Tells}
use Rattle.run_entries.proofs.starting.list_from.Goals as goal

pub returns-in-Roots-clause-told : goal.returns-in-Roots-clause-told
returns-in-Roots-clause-told g c =
    let before = side_of g.G.Plot c.args.files.now in
    let after = side_of g.G.Plot c.walk_side.new.files in
    subst
    (λ s. IfOk c.walk_side.result (λ found. (listed : Listed (start_in s) found.list before after)
    × Tells c.args.common.now (start_in s) found.list before after listed found.account))
    (sym c.in-Roots.is) c.walk_side.ensures.told

pub returns-in-Restart-clause-told : goal.returns-in-Restart-clause-told
returns-in-Restart-clause-told g c =
    let before = side_of g.G.Plot c.args.files.now in
    let after = side_of g.G.Plot c.walk_side-in-Restart.new.files in
    let told = subst
    (λ given. IfOk c.walk_side-in-Restart.result (λ found. (listed : Listed (roots given) found.list before after)
    × Tells c.args.common.now (roots given) found.list before after listed found.account))
    c.new.ensures.items c.walk_side-in-Restart.ensures.told in
    subst
    (λ s. IfOk c.walk_side-in-Restart.result (λ found. (listed : Listed (start_in s) found.list before after)
    × Tells c.args.common.now (start_in s) found.list before after listed found.account))
    (sym c.in-Restart.is) told
