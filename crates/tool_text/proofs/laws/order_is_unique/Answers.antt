use Rattle.tool_text.proofs.NotesOrdered.{order_is_unique}
use Rattle.tool_text.proofs.laws.order_is_unique.Goals as goal

pub returns : goal.returns
returns c = order_is_unique
