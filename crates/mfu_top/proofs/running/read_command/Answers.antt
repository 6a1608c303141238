use Rattle.mfu_top.proofs.Prelude.{map, string_bytes}
use Rattle.mfu_top.proofs.Ended.{within}
use Rattle.mfu_top.proofs.running.read_command.Goals as goal

pub returns-clause-within : goal.returns-clause-within
returns-clause-within c = within (map string_bytes c.args.words.now) _ c.words_ask_within_limits.ensures c.read_words.ensures.read
