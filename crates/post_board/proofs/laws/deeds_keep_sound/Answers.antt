use Rattle.post_board.proofs.DeedLemmas.{sound_after}
use Rattle.post_board.proofs.laws.deeds_keep_sound.Goals as goal

pub returns : goal.returns
returns c = sound_after
