use Rattle.tool_words.proofs.Slashes.{cut_off}
use Rattle.tool_words.proofs.trimming.before_end_slashes.Goals as goal

pub returns : goal.returns
returns c = cut_off c.args.text.now c.trim_end_matches.result.now c.trim_end_matches.ensures.matches
