use Rattle.tool_words.proofs.Bounds.{within}
use Rattle.tool_words.proofs.laws.words_ask_within_limits.Goals as goal

pub returns : goal.returns
returns c = within
