use Rattle.post_board.proofs.LateDeeds.{late_sound}
use Rattle.post_board.proofs.laws.late_keeps_sound.Goals as goal

pub returns : goal.returns
returns c = late_sound
