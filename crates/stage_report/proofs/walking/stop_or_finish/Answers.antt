use Rattle.stage_report.proofs.Prelude.{refl}
use Rattle.stage_report.proofs.Walked.{setting, stage_is}
use Rattle.stage_report.proofs.walking.stop_or_finish.Goals as goal

pub returns-clause-stage : goal.returns-clause-stage
returns-clause-stage g c =
    let ok = c.in-Ok.ensures in
    let count = g.G.Plot.count in
    let s = setting c.args.common.now (g.G.Plot.tree c.args.files.now) c.args.done c.args.starts.items (count c.args.files.now) (count c.walk.new.ground) in
    stage_is s c.args.most c.in-Ok.report c.in_ok-stage.stage
    (record {
      found = ok.found;
      cut = ok.cut;
      lists = ok.lists;
      some_left = ok.some_left;
      reached = ok.reached;
      bound = ok.bound;
      shares = ok.shares;
      by_rank = ok.by_rank;
      moved = ok.moved;
      untraced = ok.untraced refl;
      progress = ok.progress;
    }) c.in_ok-stage.ensures
