use Rattle.post_board.proofs.Prelude.{refl, told_of, told_by}
use Rattle.post_board.proofs.LateDeeds.{sound_worded}
use Rattle.post_board.proofs.laws.told_is_sound.Goals as goal

pub returns : goal.returns
returns c = λ b s seat. sound_worded (told_of b.ranks.items b.token) (told_by b) refl refl seat.0.1
