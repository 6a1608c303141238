use Rattle.path_text.proofs.Preordered.{reads_slash_as_zero}
use Rattle.path_text.proofs.laws.path_order_reads_slash_as_zero.Goals as goal

pub returns : goal.returns
returns c = reads_slash_as_zero
