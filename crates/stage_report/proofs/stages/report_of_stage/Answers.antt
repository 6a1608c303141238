use Rattle.stage_report.proofs.Prelude.{rules, length, subst, side_of, Saved, output_of, StopsSaving, StopsWriting, stage_asked, StopsStage, WalksNot}
use Rattle.stage_report.proofs.Staged.{cut_off, not_walked, not_saved, not_kept, kept, prints_all, reports, told_as}
use Rattle.stage_report.proofs.Leaves.{leaves_saved, leaves_cut}
use Rattle.stage_report.proofs.stages.report_of_stage.Goals as goal

pub returns-in_err-stage-clause-stops : goal.returns-in_err-stage-clause-stops
returns-in_err-stage-clause-stops g c =
    let asked = stage_asked c.args.task in
    let before = side_of g.G.Plot c.args.files.now in
    let after = side_of g.G.Plot c.begin_and_walk.new.files in
    let why = c.in_err-stage.field-0.0 in
    let walk : WalksNot asked.starts asked.lists asked.stop_after asked.common before after why = search rules in
    let stops : StopsStage asked before after why = not_walked asked before after why c.begin_and_walk.ensures.same walk in
    told_as c.from_residual.result why (StopsStage asked before after) c.from_residual.ensures.1 stops

-- ---- a whole list

pub returns-in_err-save_list-in-Finished-clause-leaves : goal.returns-in_err-save_list-in-Finished-clause-leaves
returns-in_err-save_list-in-Finished-clause-leaves g c =
    leaves_saved (stage_asked c.args.task) (g.G.Plot.tree c.args.files.now) _ (g.G.Plot.tree c.save_list.new.files) c.begin_and_walk.ensures.same
    c.save_list.ensures.rest

pub returns-in_err-save_list-in-Finished-clause-stops : goal.returns-in_err-save_list-in-Finished-clause-stops
returns-in_err-save_list-in-Finished-clause-stops g c =
    let asked = stage_asked c.args.task in
    let before = side_of g.G.Plot c.args.files.now in
    let walked = side_of g.G.Plot c.begin_and_walk.new.files in
    let after = side_of g.G.Plot c.save_list.new.files in
    let why = c.in_err-save_list-in-Finished.field-0.0 in
    let all = c.in_ok-found-in-Finished in
    let saving : StopsSaving (output_of asked.output all.found.chosen) walked after why = search rules in
    let stops =
    not_saved asked before walked after c.in_ok-stage.ensures.walks c.in-Finished.list c.in-Finished.account why c.in-Finished.is
    c.save_list.ensures.count.kept (subst (λ es. StopsSaving (output_of asked.output es) walked after why) all.ensures.chosen saving) in
    let answer = c.from_residual-in_err-save_list-in-Finished in
    told_as answer.result why (StopsStage asked before after) answer.ensures.1 stops

pub returns-in_err-list_report-in-Finished-clause-leaves : goal.returns-in_err-list_report-in-Finished-clause-leaves
returns-in_err-list_report-in-Finished-clause-leaves g c =
    leaves_saved (stage_asked c.args.task) (g.G.Plot.tree c.args.files.now) _ (g.G.Plot.tree c.save_list.new.files) c.begin_and_walk.ensures.same
    c.save_list.ensures.rest

pub returns-in-Finished-clause-reports : goal.returns-in-Finished-clause-reports
returns-in-Finished-clause-reports g c =
    let asked = stage_asked c.args.task in
    let walked = side_of g.G.Plot c.begin_and_walk.new.files in
    let after = side_of g.G.Plot c.save_list.new.files in
    let list = c.in-Finished.list in
    let account = c.in-Finished.account in
    let all = c.in_ok-found-in-Finished in
    let told = c.in_ok-list_report-in-Finished in
    reports asked _ walked after c.in_ok-stage.ensures.walks list account told.field-0 c.in-Finished.is c.save_list.ensures.count.kept
    (subst (λ es. Saved (output_of asked.output es) walked.tree after.tree) all.ensures.chosen c.in_ok-save_list-in-Finished.ensures.saved)
    (prints_all asked list all.found.chosen account all.found.account all.found.notes.items told.field-0 all.ensures.chosen all.ensures.account
    all.ensures.names told.ensures.out told.ensures.notes told.ensures.failed)

pub returns-in-Finished-clause-leaves : goal.returns-in-Finished-clause-leaves
returns-in-Finished-clause-leaves g c =
    leaves_saved (stage_asked c.args.task) (g.G.Plot.tree c.args.files.now) _ (g.G.Plot.tree c.save_list.new.files) c.begin_and_walk.ensures.same
    c.save_list.ensures.rest

-- ---- a checkpoint

pub returns-in_err-keep-in-Cut-clause-leaves : goal.returns-in_err-keep-in-Cut-clause-leaves
returns-in_err-keep-in-Cut-clause-leaves g c =
    let asked = stage_asked c.args.task in
    let off = cut_off asked _ _ c.in_ok-stage.ensures.walks c.in-Cut.handled c.in-Cut.done c.in-Cut.left _ c.in-Cut.is c.deref.ensures.value in
    leaves_cut asked _ _ _ _ _ (g.G.Plot.tree c.keep.new.files) off c.keep.ensures.tells c.keep.ensures.rest

pub returns-in_err-keep-in-Cut-clause-stops : goal.returns-in_err-keep-in-Cut-clause-stops
returns-in_err-keep-in-Cut-clause-stops g c =
    let asked = stage_asked c.args.task in
    let before = side_of g.G.Plot c.args.files.now in
    let walked = side_of g.G.Plot c.begin_and_walk.new.files in
    let after = side_of g.G.Plot c.keep.new.files in
    let why = c.in_err-keep-in-Cut.field-0.0 in
    let writing : StopsWriting asked.lists (length c.deref.result.now) c.in-Cut.done walked after why = search rules in
    let off = cut_off asked _ _ c.in_ok-stage.ensures.walks c.in-Cut.handled c.in-Cut.done c.in-Cut.left _ c.in-Cut.is c.deref.ensures.value in
    let stops = not_kept asked before walked after c.in-Cut.done c.in-Cut.handled c.deref.result.now why off c.keep.ensures.count.kept writing in
    let answer = c.from_residual-in_err-keep-in-Cut in
    told_as answer.result why (StopsStage asked before after) answer.ensures.1 stops

pub returns-clause-leaves : goal.returns-clause-leaves
returns-clause-leaves g c =
    let asked = stage_asked c.args.task in
    let off = cut_off asked _ _ c.in_ok-stage.ensures.walks c.in-Cut.handled c.in-Cut.done c.in-Cut.left _ c.in-Cut.is c.deref.ensures.value in
    leaves_cut asked _ _ _ _ _ (g.G.Plot.tree c.keep.new.files) off c.keep.ensures.tells c.keep.ensures.rest

pub returns-clause-stops : goal.returns-clause-stops
returns-clause-stops g c =
    let asked = stage_asked c.args.task in
    let after = side_of g.G.Plot c.keep.new.files in
    let off = cut_off asked _ _ c.in_ok-stage.ensures.walks c.in-Cut.handled c.in-Cut.done c.in-Cut.left _ c.in-Cut.is c.deref.ensures.value in
    let here = c.in_ok-keep-in-Cut in
    kept asked _ _ after c.in-Cut.done c.in-Cut.handled c.deref.result.now here.field-0 off c.keep.ensures.count.kept here.ensures.kept
    c.keep.ensures.rest here.ensures.named
