use Rattle.stage_report.proofs.Stopped.{stopped_are_kept}
use Rattle.stage_report.proofs.laws.stopped_stages_are_kept.Goals as goal

pub returns : goal.returns
returns c = stopped_are_kept
