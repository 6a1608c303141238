use Rattle.post_board.proofs.Prelude.{refl}
use Rattle.post_board.proofs.HaltSteps.{allows_set_halt, allows_load_halt, allows_stop, allows_load_stops, allows_withdraw}
use Rattle.post_board.proofs.laws.late_steps_keep_the_rule.Goals as goal

pub returns-clause-set_halt : goal.returns-clause-set_halt
returns-clause-set_halt c = λ n slots id m going. allows_set_halt n slots id m going

pub returns-clause-load_halt : goal.returns-clause-load_halt
returns-clause-load_halt c = λ n slots id m going. allows_load_halt n slots id m going

pub returns-clause-stop : goal.returns-clause-stop
returns-clause-stop c = λ n slots id m going rests idle. allows_stop n slots id _ m going rests idle refl

pub returns-clause-load_stops : goal.returns-clause-load_stops
returns-clause-load_stops c = λ n slots id m going. allows_load_stops n slots id m going

pub returns-clause-withdraw : goal.returns-clause-withdraw
returns-clause-withdraw c = λ n slots id r v m going number left. allows_withdraw n slots id r v m going number left
