use Rattle.stage_report.proofs.Prelude.{rules, ◌∙◌, subst, option_map, side_of, IsStage, StopsWalk, WalksNot}
use Rattle.stage_report.proofs.Staged.{not_begun, too_much}
use Rattle.stage_report.proofs.stages.begin_and_walk.Goals as goal

pub returns-clause-walks : goal.returns-clause-walks
returns-clause-walks g c =
    let same = c.begin_stage.ensures.same in
    let count = g.G.Plot.count c.begin_stage.new.files in
    let walked = g.G.Plot.count c.walk_stage.new.files in
    let b = c.in_ok-beginning.beginning in
    let stage = c.in_ok-stage in
    record {
      done = b.done;
      starts = b.starts.items;
      count = count;
      begins = c.in_ok-beginning.ensures.begins;
      kept = c.begin_stage.ensures.count.kept;
      is = subst (λ t. IsStage c.args.stop_after c.args.common.now t b.done b.starts.items count walked stage.stage) same stage.ensures.stage;
      few = stage.ensures.few;
      same = c.walk_stage.ensures.same ∙ same;
    }

pub returns-in_err-beginning-clause-stopped : goal.returns-in_err-beginning-clause-stopped
returns-in_err-beginning-clause-stopped g c =
    let given = option_map (λ paths. paths.items) c.args.starts in
    let before = side_of g.G.Plot c.args.files.now in
    let after = side_of g.G.Plot c.begin_stage.new.files in
    let stops : WalksNot given c.args.lists.now c.args.stop_after c.args.common.now before after c.in_err-beginning.field-0.0 =
    not_begun c.args.stop_after c.args.common.now c.in_err-beginning.ensures.stopped in
    search (rules, stops, c.from_residual.ensures)

pub returns-in_err-stage-clause-stopped : goal.returns-in_err-stage-clause-stopped
returns-in_err-stage-clause-stopped g c =
    let given = option_map (λ paths. paths.items) c.args.starts in
    let before = side_of g.G.Plot c.args.files.now in
    let after = side_of g.G.Plot c.walk_stage.new.files in
    let tree = g.G.Plot.tree c.begin_stage.new.files in
    let count = g.G.Plot.count c.begin_stage.new.files in
    let b = c.in_ok-beginning in
    let why = c.in_err-stage.field-0.0 in
    let walk : StopsWalk c.args.stop_after c.args.common.now tree b.beginning.done b.beginning.starts.items count after.count why = search rules in
    let stops : WalksNot given c.args.lists.now c.args.stop_after c.args.common.now before after why =
    too_much c.args.stop_after c.args.common.now b.ensures.begins c.begin_stage.ensures.count.kept c.begin_stage.ensures.same walk in
    search (rules, stops, c.from_residual-in_err-stage.ensures)
