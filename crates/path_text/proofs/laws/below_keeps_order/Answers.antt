use Rattle.path_text.proofs.Moved.{below_keeps_order}
use Rattle.path_text.proofs.laws.below_keeps_order.Goals as goal

pub returns : goal.returns
returns c = below_keeps_order
