use Rattle.post_board.proofs.Turned.{mailbox_turns, ring_turns, halt_turns}
use Rattle.post_board.proofs.laws.board_steps_are_deeds.Goals as goal

pub returns-clause-mailboxes : goal.returns-clause-mailboxes
returns-clause-mailboxes c = mailbox_turns

pub returns-clause-ring : goal.returns-clause-ring
returns-clause-ring c = ring_turns

pub returns-clause-halts : goal.returns-clause-halts
returns-clause-halts c = halt_turns
