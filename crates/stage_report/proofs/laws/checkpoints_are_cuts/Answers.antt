use Rattle.stage_report.proofs.Cuts.{checkpoints_are_cuts}
use Rattle.stage_report.proofs.laws.checkpoints_are_cuts.Goals as goal

pub returns : goal.returns
returns c =
    checkpoints_are_cuts
    (record { one_roots = c.roots_are_unique.ensures; one_kept = c.checkpoints_are_one.ensures; local = c.cuts_are_local.ensures })
    c.cut_goes_on.ensures
