use Rattle.whole_lines.proofs.Prelude.{◌∙◌}
use Rattle.whole_lines.proofs.Numbers.{parsed_is}
use Rattle.whole_lines.proofs.reading.parsed.Goals as goal

pub returns : goal.returns
returns c = c.ok.ensures.value ∙ parsed_is c.args.text.now c.parse.result c.requires c.parse.ensures.value.0
