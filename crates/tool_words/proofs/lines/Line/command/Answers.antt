use Rattle.tool_words.proofs.Prelude.{asked_by, clash_in, asked_of, unless_clash}
use Rattle.tool_words.proofs.Steps.{tells_both, refused_by}
use Rattle.tool_words.proofs.lines.Line.command.Goals as goal

pub returns-in_err-command : goal.returns-in_err-command
returns-in_err-command c =
    let line = c.args.self in
    refused_by _ asked_by c.from_residual.result _ c.from_residual.ensures.1
    (tells_both (asked_of c.args.wanting c.args.tool line) (unless_clash (clash_in line.options line.settings)) _ c.in_err-command.ensures.refused)
