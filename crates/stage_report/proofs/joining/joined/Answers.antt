use Rattle.stage_report.proofs.Prelude.{◌∙◌, sym}
use Rattle.stage_report.proofs.joining.joined.Goals as goal
use Rattle.stage_report.proofs.Joins.{joined_alone, no_length}

pub returns-then-is_empty : goal.returns-then-is_empty
returns-then-is_empty c =
    joined_alone c.args.done c.args.later (no_length c.args.done (sym c.is_empty.ensures ∙ c.if-is_empty.true)) c.requires.ascend
