use Rattle.tree_copy.proofs.Prelude.{◌∙◌, ap, sym, subst, map, IfSome, count_by, RoseBy, IsTreeIn, is_failed, is_done, HaveCauses, AreEarly, Copied}
use Rattle.tree_copy.proofs.Prelude.{bytes_copied, if_ok}
use Rattle.tree_copy.proofs.Reported.{Run, acted_rest, all_made, all_run, all_bytes, both_ok, causes, dirs, done_rows, early, fit, fitted}
use Rattle.tree_copy.proofs.Reported.{marked, marks_len, rest, rose}
use Rattle.tree_copy.proofs.Reported.{row_paths, stand, told}
use Rattle.tree_copy.proofs.copying.copy.Given as given
use Rattle.tree_copy.proofs.copying.copy.Goals as goal
use Rattle.tree_copy.proofs.copying.copy.Goals.{After-settle}

pub work-requires-clause-items : goal.work-requires-clause-items
work-requires-clause-items g c κs within = fit
    _ _ _ _
    (all_made _ _ _ _ c.requires.list c.in_ok-items.ensures.valid c.in_ok-items.ensures.pairs c.in_ok-items.ensures.paths c.in_ok-items.ensures.items
    c.deref.ensures.value)

pub work-requires-clause-stand : goal.work-requires-clause-stand
work-requires-clause-stand g c κs within = stand
    _ _ _ _
    (all_made _ _ _ _ c.requires.list c.in_ok-items.ensures.valid c.in_ok-items.ensures.pairs c.in_ok-items.ensures.paths c.in_ok-items.ensures.items
    c.deref.ensures.value) (g.G.Plot.tree c.args.ground.now) c.requires.fits

pub work-requires-clause-dirs : goal.work-requires-clause-dirs
work-requires-clause-dirs g c κs within = dirs
    _ _ _ _
    (all_made _ _ _ _ c.requires.list c.in_ok-items.ensures.valid c.in_ok-items.ensures.pairs c.in_ok-items.ensures.paths c.in_ok-items.ensures.items
    c.deref.ensures.value) c.nodes_are_under_directories.ensures (g.G.Plot.tree c.args.ground.now)
    (subst (λ a. IfSome (g.G.Plot.tree c.args.ground.now) (IsTreeIn a)) c.requires.lent c.faults-faults.ensures.valid) c.requires.fits

pub returns-in_err-outcome-clause-rest : goal.returns-in_err-outcome-clause-rest
returns-in_err-outcome-clause-rest g c = rest
    _ _ _ _
    (all_made _ _ _ _ c.requires.list c.in_ok-items.ensures.valid c.in_ok-items.ensures.pairs c.in_ok-items.ensures.paths c.in_ok-items.ensures.items
    c.deref.ensures.value) (g.G.Plot.tree c.args.ground.now) (g.G.Plot.tree c.work.new.ground) c.in_err-outcome.ensures.rest

pub settle-requires-clause-items : goal.settle-requires-clause-items
settle-requires-clause-items g c =
    fitted c.args.list.now c.args.pairs.now c.in_ok-items.field-0.items.items c.deref-2.result.now c.in_ok-items.ensures.items (c.deref-2.ensures.value
    ∙ c.in_ok-items.ensures.fits)

pub settle-requires-clause-len : goal.settle-requires-clause-len
settle-requires-clause-len g c = marked c.args.list.now c.args.pairs.now c.deref.result.now c.deref-2.result.now c.in_ok-outcome.outcome
    (c.deref.ensures.value ∙ c.in_ok-items.ensures.items)
    (c.deref-2.ensures.value ∙ c.in_ok-items.ensures.fits) c.in_ok-outcome.ensures.len

pub returns-clause-rest : goal.returns-clause-rest
returns-clause-rest g c = acted_rest
    _ _ _ _
    (all_made _ _ _ _ c.requires.list c.in_ok-items.ensures.valid c.in_ok-items.ensures.pairs c.in_ok-items.ensures.paths c.in_ok-items.ensures.items
    c.deref.ensures.value) c.in_ok-outcome.outcome (g.G.Plot.tree c.args.ground.now) (g.G.Plot.tree c.work.new.ground) c.in_ok-outcome.ensures.told

pub returns-clause-paths : goal.returns-clause-paths
returns-clause-paths g c =
    let len = marks_len c.args.list.now c.args.pairs.now c.deref-2.result.now (c.deref-2.ensures.value ∙ c.in_ok-items.ensures.fits) in
    if_ok _ _ c.settle.result (λ report rows. ap (map (λ row. row.0)) rows ∙ row_paths c.args.list.now c.deref-2.result.now c.in_ok-outcome.outcome len)
    c.settle.ensures.rows

-- what is known once the fates are settled
run_of : (g : given.Over) (c : After-settle g) →
    Run c.args.list.now c.args.pairs.now c.in_ok-items.field-0.items.items c.deref.result.now c.deref-2.result.now c.in_ok-outcome.outcome
run_of g c = all_run c.args.list.now c.args.pairs.now c.in_ok-items.field-0.items.items c.deref.result.now c.deref-2.result.now _ c.in_ok-outcome.outcome
    (all_made _ _ _ _ c.requires.list c.in_ok-items.ensures.valid c.in_ok-items.ensures.pairs c.in_ok-items.ensures.paths c.in_ok-items.ensures.items
    c.deref.ensures.value) c.deref-2.ensures.value c.in_ok-items.ensures.fits c.in_ok-outcome.ensures.len c.in_ok-outcome.ensures.failed

pub returns-clause-early : goal.returns-clause-early
returns-clause-early g c =
    let run = run_of g (goal.at.returns-clause-early g c).After-settle in
    if_ok _ _ c.settle.result (λ report rows. subst (AreEarly c.args.list.now c.args.pairs.now) (sym rows)
    (early g.G.Reader.Tree.gives g.G.Part.Plot.gives _ _ _ _ _ _ run c.in_ok-outcome.ensures.each_may_come))
    c.settle.ensures.rows

pub returns-clause-causes : goal.returns-clause-causes
returns-clause-causes g c =
    let run = run_of g (goal.at.returns-clause-causes g c).After-settle in
    if_ok _ _ c.settle.result
    (λ report rows. subst (HaveCauses g.G.Reader.Tree.gives g.G.Part.Plot.gives g.G.Plot.gives g.G.Plot.area g.G.Plot.count c.args.list.now c.args.pairs.now)
    (sym rows)
    (causes g.G.Reader.Tree.gives g.G.Part.Plot.gives _ _ _ _ _ _ run c.in_ok-outcome.ensures.each_may_come g.G.Plot.gives g.G.Plot.area g.G.Plot.count))
    c.settle.ensures.rows

pub returns-clause-told : goal.returns-clause-told
returns-clause-told g c =
    let run = run_of g (goal.at.returns-clause-told g c).After-settle in
    if_ok _ _ c.settle.result
    (λ report rows. subst
    (λ r. IfSome (g.G.Plot.tree c.args.ground.now)
    (λ before. IfSome (g.G.Plot.tree c.work.new.ground) (Copied c.args.list.now c.args.pairs.now r before))) (sym rows)
    (told g.G.Reader.Tree.gives g.G.Part.Plot.gives _ _ _ _ _ _ run c.in_ok-outcome.ensures.each_may_come
    (g.G.Plot.tree c.args.ground.now) (g.G.Plot.tree c.work.new.ground) c.requires.fits c.in_ok-outcome.ensures.told)) c.settle.ensures.rows

pub returns-clause-copied : goal.returns-clause-copied
returns-clause-copied g c =
    let len = marks_len c.args.list.now c.args.pairs.now c.deref-2.result.now (c.deref-2.ensures.value ∙ c.in_ok-items.ensures.fits) in
    both_ok _ _ _ c.settle.result (λ report rows copied. copied ∙ done_rows c.args.list.now c.deref-2.result.now c.in_ok-outcome.outcome len
    ∙ ap (count_by (λ row. is_done row.1)) (sym rows))
    c.settle.ensures.rows c.settle.ensures.copied

pub returns-clause-bytes : goal.returns-clause-bytes
returns-clause-bytes g c =
    let len = marks_len c.args.list.now c.args.pairs.now c.deref-2.result.now (c.deref-2.ensures.value ∙ c.in_ok-items.ensures.fits) in
    both_ok _ _ _ c.settle.result (λ report rows bytes. bytes ∙ all_bytes c.args.list.now c.deref-2.result.now c.in_ok-outcome.outcome len
    ∙ ap (bytes_copied c.args.list.now) (sym rows))
    c.settle.ensures.rows c.settle.ensures.bytes

pub returns-clause-blamed : goal.returns-clause-blamed
returns-clause-blamed g c =
    let len = marks_len c.args.list.now c.args.pairs.now c.deref-2.result.now (c.deref-2.ensures.value ∙ c.in_ok-items.ensures.fits) in
    if_ok _ _ c.settle.result
    (λ report rows. subst (λ r. RoseBy (count_by (λ row. is_failed row.1) r) (g.G.Plot.count c.args.ground.now) (g.G.Plot.count c.work.new.ground))
    (sym rows)
    (rose c.args.list.now c.deref-2.result.now c.in_ok-outcome.outcome len (g.G.Plot.count c.args.ground.now) (g.G.Plot.count c.work.new.ground)
    c.in_ok-outcome.ensures.blamed)) c.settle.ensures.rows
