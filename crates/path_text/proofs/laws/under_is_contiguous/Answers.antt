use Rattle.path_text.proofs.Under.{contiguous}
use Rattle.path_text.proofs.laws.under_is_contiguous.Goals as goal

pub returns : goal.returns
returns c = contiguous
