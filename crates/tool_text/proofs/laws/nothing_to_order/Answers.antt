use Rattle.tool_text.proofs.NotesOrdered.{nothing_to_order}
use Rattle.tool_text.proofs.laws.nothing_to_order.Goals as goal

pub returns : goal.returns
returns c = nothing_to_order
