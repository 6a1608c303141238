use Rattle.path_text.proofs.Preordered.{preorder}
use Rattle.path_text.proofs.laws.path_order_is_preorder.Goals as goal

pub returns : goal.returns
returns c = preorder
