use Rattle.post_board.proofs.MomentLemmas.{token_holds, nothing_left}
use Rattle.post_board.proofs.laws.board_is_sound_at_every_moment.Goals as goal

pub returns-clause-token : goal.returns-clause-token
returns-clause-token c = token_holds

pub returns-clause-end : goal.returns-clause-end
returns-clause-end c = nothing_left
