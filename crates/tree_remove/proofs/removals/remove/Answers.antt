use Rattle.tree_remove.proofs.Prelude.{◌∙◌, refl, ap, sym, subst, length, map, IfSome, count_by, zip, IsTreeIn, is_failed, ParentsFail, HaveCauses, Removed}
use Rattle.level_work.specs.declared.items.Order.TheVariants as order
use Rattle.tree_remove.proofs.Causes.{AllShow, causes}
use Rattle.tree_remove.proofs.Removes.{stands_in, fit, rest_of, acted_rest, row_paths, removed, rose_by}
use Rattle.tree_remove.proofs.Rows.{count_paths}
use Rattle.tree_remove.proofs.removals.remove.Goals as goal

pub on_levels-requires-clause-items : goal.on_levels-requires-clause-items
on_levels-requires-clause-items g c κs within = fit c.args.chosen.now _ (record {
  law = c.nodes_are_under_directories.ensures;
  chosen = c.requires.chosen;
  valid = c.in_ok-items.ensures.valid;
  is = c.deref.ensures.value ∙ c.in_ok-items.ensures.items;
})

pub on_levels-requires-clause-stand : goal.on_levels-requires-clause-stand
on_levels-requires-clause-stand g c κs within = stands_in c.args.chosen.now _ (g.G.Plot.tree c.args.ground.now) (record {
  law = c.nodes_are_under_directories.ensures;
  chosen = c.requires.chosen;
  valid = c.in_ok-items.ensures.valid;
  is = c.deref.ensures.value ∙ c.in_ok-items.ensures.items;
}) c.requires.there (subst (λ a. IfSome (g.G.Plot.tree c.args.ground.now) (IsTreeIn a)) c.requires.lent c.faults-faults.ensures.valid)

pub returns-in_err-fates-clause-rest : goal.returns-in_err-fates-clause-rest
returns-in_err-fates-clause-rest g c = rest_of c.args.chosen.now _ _ _ (c.deref.ensures.value ∙ c.in_ok-items.ensures.items) c.in_err-fates.ensures.rest

pub returns-clause-paths : goal.returns-clause-paths
returns-clause-paths g c =
    ap (map (λ row. row.0)) c.in_ok-rows.ensures
    ∙ row_paths c.args.chosen.now _ _ c.in_ok-items.ensures.items (c.in_ok-fates.ensures.len ∙ ap length c.deref.ensures.value)

pub rows_of-requires : goal.rows_of-requires
rows_of-requires g c = c.in_ok-fates.ensures.len ∙ ap length c.deref.ensures.value

pub returns-clause-told : goal.returns-clause-told
returns-clause-told g c =
    let before = g.G.Plot.tree c.args.ground.now in
    let after = g.G.Plot.tree c.on_levels.new.ground in
    let told = removed c.args.chosen.now _ _ before after (record {
      law = c.nodes_are_under_directories.ensures;
      chosen = c.requires.chosen;
      valid = c.in_ok-items.ensures.valid;
      is = c.deref.ensures.value ∙ c.in_ok-items.ensures.items;
    }) c.in_ok-fates.ensures.len c.in_ok-fates.ensures.failed c.requires.there
    (subst (λ a. IfSome after (IsTreeIn a)) c.in_ok-fates.ensures.home c.faults-faults-2.ensures.valid) (c.in_ok-fates.ensures.told tt (λ i e at. refl)) in
    subst (λ rs. IfSome before (λ old. IfSome after (Removed rs old)))
    (ap (λ xs. zip (map (λ x. x.path) xs) c.in_ok-fates.fates) c.deref.ensures.value ∙ sym c.in_ok-rows.ensures) told

pub returns-clause-blamed : goal.returns-clause-blamed
returns-clause-blamed g c =
    rose_by _ _ _ _ _ _ c.in_ok-fates.ensures.kept c.in_ok-fates.ensures.blamed
    (count_paths is_failed _ _ (c.in_ok-fates.ensures.len ∙ ap length c.deref.ensures.value)
    ∙ ap (count_by (λ row. is_failed row.1)) (sym c.in_ok-rows.ensures))

pub returns-clause-rest : goal.returns-clause-rest
returns-clause-rest g c =
    acted_rest c.args.chosen.now _ _ _ _ (c.deref.ensures.value ∙ c.in_ok-items.ensures.items) (c.in_ok-fates.ensures.told tt (λ i e at. refl))

pub returns-in_err-rows-clause-rest : goal.returns-in_err-rows-clause-rest
returns-in_err-rows-clause-rest g c =
    acted_rest c.args.chosen.now _ _ _ _ (c.deref.ensures.value ∙ c.in_ok-items.ensures.items) (c.in_ok-fates.ensures.told tt (λ i e at. refl))

pub returns-clause-causes : goal.returns-clause-causes
returns-clause-causes g c =
    let same = c.deref.ensures.value ∙ c.in_ok-items.ensures.items in
    subst (HaveCauses g.G.Part.Plot.gives c.args.chosen.now)
    (ap (λ xs. zip (map (λ x. x.path) xs) c.in_ok-fates.fates) (sym c.in_ok-items.ensures.items) ∙ sym c.in_ok-rows.ensures)
    (causes g.G.Part.Plot.gives c.args.chosen.now c.in_ok-fates.fates (c.in_ok-fates.ensures.len ∙ ap length same)
    (subst (λ xs. ParentsFail order.BottomUp xs c.in_ok-fates.fates) same c.in_ok-fates.ensures.failed)
    (subst (λ xs. AllShow g.G.Part.Plot.gives xs c.in_ok-fates.fates) same
    (λ k x f at has off. (c.in_ok-fates.ensures.each_may_come k x f at has off).may)))
