use Rattle.path_text.proofs.Prelude.{◌∙◌}
use Rattle.path_text.proofs.Words.{past_words}
use Rattle.path_text.proofs.ordering.compare.Goals as goal

pub returns : goal.returns
returns c = c.compare_bytes.ensures ∙ past_words c.args.a.now c.args.b.now c.shared_words-same.result c.shared_words-same.ensures.same
