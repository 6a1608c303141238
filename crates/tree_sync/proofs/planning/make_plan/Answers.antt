use Rattle.tree_sync.proofs.Prelude.{◌≡◌, ◌∙◌, [], IfSome, ap, cond, filter, map, refl, subst, sym, IsStrictlySortedBy, path_cmp, below_keeps_order, IsTreeIn}
use Rattle.tree_sync.proofs.Prelude.{side, Begun, IsPlan, is_chosen_off, masks_of, ReadsShow, Plan}
use Rattle.tree_sync.proofs.Kept.{masks_ascend}
use Rattle.tree_sync.proofs.Planned.{empty_plan, full_plan}
use Rattle.tree_sync.proofs.Steps.{left_told, reads_show, right_told}
use Rattle.tree_sync.proofs.planning.make_plan.Given as given
use Rattle.tree_sync.proofs.planning.make_plan.Goals as goal
use Rattle.tree_sync.proofs.planning.make_plan.Goals.{In_ok-changed}

pub compare_files-requires-clause-left_told : goal.compare_files-requires-clause-left_told
compare_files-requires-clause-left_told g c κs within =
    left_told c.args.pair.now c.args.source.now c.args.dest.now (g.G.Plot.tree c.args.files.now) c.requires.fits

pub compare_files-requires-clause-right_told : goal.compare_files-requires-clause-right_told
compare_files-requires-clause-right_told g c κs within =
    right_told c.args.pair.now c.args.source.now c.args.dest.now (g.G.Plot.tree c.args.files.now) c.requires.fits

-- the files that the comparison missed, and that reads show them
failed_are : (g : given.Over) (c : In_ok-changed g) → c.in_ok-failed.failed.items ≡ map (λ m. m.path) c.in_ok-found.found.failed
failed_are g c = c.in_ok-failed.ensures ∙ ap (map (λ m. m.path)) c.failed.ensures

changed_are : (g : given.Over) (c : In_ok-changed g) → c.in_ok-changed.changed.items ≡ map (λ m. m.path) c.in_ok-found.found.changed
changed_are g c = c.in_ok-changed.ensures ∙ ap (map (λ m. m.path)) c.changed.ensures

missed_show : (g : given.Over) (c : In_ok-changed g) → ReadsShow g.G.Reader.Tree.gives c.in_ok-failed.failed.items c.in_ok-changed.changed.items
missed_show g c = reads_show g.G.Reader.Tree.gives c.in_ok-found.found c.in_ok-failed.failed.items c.in_ok-changed.changed.items
    (failed_are g c) (changed_are g c) c.in_ok-found.ensures.causes

-- a plan by the comparison, and the facts where it begins
begin : (g : given.Over) (c : In_ok-changed g) (plan : Plan)
    → IsPlan c.args.pair.now c.args.source.now c.args.dest.now c.args.delete (g.G.Plot.tree c.args.files.now) plan
    → Begun c.args.pair.now c.args.source.now c.args.dest.now c.args.delete (g.G.Plot.tree c.args.files.now)
    (g.G.Plot.tree c.compare_files.new.files) plan
begin g c plan is_plan = record {
  law = c.nodes_have_paths.ensures;
  known = record { can = c.requires.can; from = c.text.ensures.valid; to = c.text-2.ensures.valid };
  fits = c.requires.fits;
  are_trees = subst (λ a. IfSome (g.G.Plot.tree c.args.files.now) (IsTreeIn a)) c.requires.lent c.faults-faults.ensures.valid;
  is_plan = is_plan;
  same = c.in_ok-found.ensures.same;
}

pub returns-then-not-branch-clause-begun : goal.returns-then-not-branch-clause-begun
returns-then-not-branch-clause-begun g c =
    let at = (goal.at.returns-then-not-branch-clause-begun g c).In_ok-changed in
    begin g at _ (
    empty_plan c.args.pair.now c.args.source.now c.args.dest.now c.args.delete (g.G.Plot.tree c.args.files.now) c.in_ok-found.found
    c.in_ok-found.ensures.found (record {
      kept = 0;
      copied = c.make.result;
      chosen = c.make-then-not-branch.result;
      failed = c.in_ok-failed.failed;
      changed = c.in_ok-changed.changed;
    }) (record { failed = failed_are g at; changed = changed_are g at }) (sym c.if-not-branch.true ∙ c.in_ok-is_there.ensures)
    refl c.make.ensures c.make-then-not-branch.ensures
    )

pub returns-then-not-branch-clause-causes : goal.returns-then-not-branch-clause-causes
returns-then-not-branch-clause-causes g c = missed_show g (goal.at.returns-then-not-branch-clause-causes g c).In_ok-changed

pub chosen-requires-clause-masks : goal.chosen-requires-clause-masks
chosen-requires-clause-masks g c =
    let l = side c.args.pair.now.source c.args.source.now in
    let are : c.deref.result.now ≡ masks_of l = c.deref.ensures.value ∙ c.in_ok-kept.ensures.masks in
    subst (IsStrictlySortedBy path_cmp) (sym are) (masks_ascend below_keeps_order l c.requires.can.left)

pub returns-clause-begun : goal.returns-clause-begun
returns-clause-begun g c =
    let r = side c.args.pair.now.target c.args.dest.now in
    let at = (goal.at.returns-clause-begun g c).In_ok-changed in
    begin g at _ (
    full_plan c.args.pair.now c.args.source.now c.args.dest.now c.args.delete (g.G.Plot.tree c.args.files.now) c.in_ok-found.found
    c.in_ok-found.ensures.found _ (record { failed = failed_are g at; changed = changed_are g at })
    (sym c.if-not-branch.false ∙ c.in_ok-is_there.ensures) c.in_ok-kept.field-0 c.in_ok-kept.ensures refl refl
    (c.in_ok-chosen.ensures ∙ ap (λ masks. cond c.args.delete (filter (is_chosen_off masks r c.in_ok-found.found.rows) c.args.dest.now) [])
    c.deref.ensures.value)
    )

pub returns-clause-causes : goal.returns-clause-causes
returns-clause-causes g c = missed_show g (goal.at.returns-clause-causes g c).In_ok-changed
