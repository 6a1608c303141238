use Rattle.tree_sync.proofs.Prelude.{sym, subst, IfSome, CanCopy, FitsTree, SameButTargets, Results, ReadsShow, SameOutside}
use Rattle.tree_sync.proofs.Steps.{blamed_by, copied_by, is_sync, plan_chosen, plan_copied, plan_fits, plan_there, rest_copied, rest_removed}
use Rattle.tree_sync.proofs.syncing.sync.Given as given
use Rattle.tree_sync.proofs.syncing.sync.Goals as goal
use Rattle.tree_sync.proofs.syncing.sync.Goals.{After-copy}

pub remove-requires-clause-chosen : goal.remove-requires-clause-chosen
remove-requires-clause-chosen g c κs within =
    plan_chosen c.in_ok-plan.ensures.begun

pub remove-requires-clause-there : goal.remove-requires-clause-there
remove-requires-clause-there g c κs within =
    plan_there c.in_ok-plan.ensures.begun

pub copy-requires-clause-list : goal.copy-requires-clause-list
copy-requires-clause-list g c κs within =
    subst (CanCopy c.in_ok-plan.plan.copied) (sym c.from_ref-pairs.ensures.value)
    (plan_copied c.in_ok-plan.ensures.begun)

pub copy-requires-clause-fits : goal.copy-requires-clause-fits
copy-requires-clause-fits g c κs within =
    subst (λ ps. IfSome (g.G.Plot.tree c.remove.new.ground) (FitsTree c.in_ok-plan.plan.copied ps)) (sym c.from_ref-pairs.ensures.value)
    (plan_fits c.in_ok-plan.ensures.begun (g.G.Plot.tree c.remove.new.ground) c.in_ok-removed.ensures.tells c.in_ok-removed.ensures.rest)

pub returns-in_err-removed-clause-rest : goal.returns-in_err-removed-clause-rest
returns-in_err-removed-clause-rest g c =
    rest_removed c.in_ok-plan.ensures.begun (g.G.Plot.tree c.remove.new.ground) c.in_err-removed.ensures.rest

-- what is left of the tree, however the copy ended
left : (g : given.Over) (c : After-copy g)
    → IfSome (g.G.Plot.tree c.remove.new.ground) (λ before. IfSome (g.G.Plot.tree c.copy.new.ground)
    (SameButTargets c.from_ref-pairs.result.now c.in_ok-plan.plan.copied before))
    → IfSome (g.G.Plot.tree c.args.ground.now) (λ before. IfSome (g.G.Plot.tree c.copy.new.ground) (SameOutside c.args.pair.now.target before))
left g c rest =
    rest_copied c.in_ok-plan.ensures.begun (g.G.Plot.tree c.remove.new.ground) (g.G.Plot.tree c.copy.new.ground)
    c.in_ok-removed.ensures.tells c.in_ok-removed.ensures.rest (subst (λ ps. IfSome (g.G.Plot.tree c.remove.new.ground)
    (λ before. IfSome (g.G.Plot.tree c.copy.new.ground) (SameButTargets ps c.in_ok-plan.plan.copied before))) c.from_ref-pairs.ensures.value rest)

pub returns-in_err-copied-clause-rest : goal.returns-in_err-copied-clause-rest
returns-in_err-copied-clause-rest g c = left g (goal.at.returns-in_err-copied-clause-rest g c).After-copy c.in_err-copied.ensures.rest

pub returns-clause-rest : goal.returns-clause-rest
returns-clause-rest g c = left g (goal.at.returns-clause-rest g c).After-copy c.in_ok-copied.ensures.rest

pub returns-clause-synced : goal.returns-clause-synced
returns-clause-synced g c =
    is_sync c.in_ok-plan.ensures.begun c.of.result c.in_ok-removed.removed.0 c.in_ok-copied.copied.0
    (g.G.Plot.tree c.remove.new.ground) (g.G.Plot.tree c.copy.new.ground) c.of.ensures
    (record { paths = c.in_ok-removed.ensures.paths; tells = c.in_ok-removed.ensures.tells; removed = c.in_ok-removed.ensures.told })
    (copied_by c.in_ok-plan.plan.copied c.args.pair.now _ c.in_ok-copied.copied.0 (g.G.Plot.tree c.remove.new.ground) (g.G.Plot.tree c.copy.new.ground)
    c.from_ref-pairs.ensures.value c.in_ok-copied.ensures.paths c.in_ok-copied.ensures.early c.in_ok-copied.ensures.tells c.in_ok-copied.ensures.told)

pub returns-clause-blamed : goal.returns-clause-blamed
returns-clause-blamed g c =
    blamed_by c.in_ok-plan.plan c.in_ok-removed.removed.0 c.in_ok-copied.copied.0 c.of.result (g.G.Plot.count c.args.ground.now)
    (g.G.Plot.count c.make_plan.new.files) (g.G.Plot.count c.remove.new.ground) (g.G.Plot.count c.copy.new.ground) c.of.ensures
    c.in_ok-plan.ensures.counted c.in_ok-removed.ensures.blamed c.in_ok-copied.ensures.blamed

pub returns-clause-causes : goal.returns-clause-causes
returns-clause-causes g c =
    subst (λ (d : Results). ReadsShow g.G.Reader.Tree.gives d.failed d.changed) (sym c.of.ensures) c.in_ok-plan.ensures.causes
