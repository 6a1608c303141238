use Rattle.run_entries.proofs.Prelude.{◌≡◌, [], sym, subst, arith, summary_of, AreInOrder, failures_in}
use Rattle.run_entries.proofs.Nothing.{nothing_failed}
use Rattle.run_entries.proofs.naming.counted_failures.Goals as goal

pub returns-then-failed-eq0 : goal.returns-then-failed-eq0
returns-then-failed-eq0 c =
    let list = c.args.list.now in
    let none : (summary_of list).failed ≡ 0 = omega (arith, c.requires.failed, c.if-failed-eq0.true) in
    subst (λ notes. AreInOrder (failures_in [] list) notes) (sym c.new.ensures.items) (nothing_failed list none)
