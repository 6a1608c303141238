use Rattle.tool_text.proofs.NotesOrdered.{notes_stand_in_order}
use Rattle.tool_text.proofs.laws.notes_stand_in_order.Goals as goal

pub returns : goal.returns
returns c = notes_stand_in_order
