use Rattle.level_work.proofs.Prelude.{◌≡◌, ℕ, map, Some, IfSome, sym, subst, arith, slice_get, EachMayCome, Acted, ParentsFail, Fate, Lot}
use Rattle.level_work.specs.declared.items.Fate.TheVariants as fate
use Rattle.level_work.proofs.Hands.{written_back}
use Rattle.level_work.proofs.levels.all_levels.Goals as goal

pub run_levels-requires-clause-fresh : goal.run_levels-requires-clause-fresh
run_levels-requires-clause-fresh g c =
    λ _ _. subst (λ fates. (k : ℕ) (f : Fate) → slice_get fates k ≡ Some f → f ≡ fate.Done)
    (sym c.deref_mut.ensures.value) c.in_ok-fates.ensures.done

pub returns-clause-failed : goal.returns-clause-failed
returns-clause-failed g c =
    subst (ParentsFail c.args.order c.args.items.now)
    (sym (written_back c.in_ok-fates.fates.len c.run_levels.new.fates c.in_ok-fates.fates.items
    (omega (arith, c.in_ok-run_levels.ensures.len, c.in_ok-fates.ensures.len, c.in_ok-fates.fates.ok.0))
    (omega (arith, c.in_ok-fates.fates.ok.0)))) c.in_ok-run_levels.ensures.failed

pub returns-clause-told : goal.returns-clause-told
returns-clause-told g c =
    λ d show. subst (λ fates.
    IfSome (g.G.Plot.tree c.args.ground.now)
    (λ before. IfSome (g.G.Plot.tree c.run_levels.new.ground) (Acted (g.A.Act.deed d) c.args.order c.args.items.now fates before)))
    (sym (written_back c.in_ok-fates.fates.len c.run_levels.new.fates c.in_ok-fates.fates.items
    (omega (arith, c.in_ok-run_levels.ensures.len, c.in_ok-fates.ensures.len, c.in_ok-fates.fates.ok.0))
    (omega (arith, c.in_ok-fates.fates.ok.0)))) (c.in_ok-run_levels.ensures.told d show)

pub returns-clause-each_may_come : goal.returns-clause-each_may_come
returns-clause-each_may_come g c =
    subst (EachMayCome g.A.Act.may_come (map (λ (lot : Lot _ _). g.A.Act.who lot.actor) c.args.lots.now) c.args.items.now)
    (sym (written_back c.in_ok-fates.fates.len c.run_levels.new.fates c.in_ok-fates.fates.items
    (omega (arith, c.in_ok-run_levels.ensures.len, c.in_ok-fates.ensures.len, c.in_ok-fates.fates.ok.0))
    (omega (arith, c.in_ok-fates.fates.ok.0)))) c.in_ok-run_levels.ensures.each_may_come
