use Rattle.tool_words.proofs.Prelude.{◌∙◌, sym, arith}
use Rattle.tool_words.proofs.Groups.{found_there}
use Rattle.tool_words.proofs.tables.Tool.option.Goals as goal

pub returns-then-is_some : goal.returns-then-is_some
returns-then-is_some c =
    found_there c.args.text.now c.groups-group-items.result.now c.loop-group.group-index _ c.options.result.now c.option_among-option.result
    (omega arith) c.options.ensures c.option_among-option.ensures (sym c.if-is_some.ensures)
    ∙ c.loop-group.invariant
