use Rattle.post_board.proofs.DeedLemmas.{happens}
use Rattle.post_board.proofs.laws.deeds_are_events.Goals as goal

pub returns : goal.returns
returns c = happens
