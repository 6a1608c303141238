use Rattle.flat_list.proofs.Prelude.{sym}
use Rattle.flat_list.proofs.Times.{number_is_time}
use Rattle.flat_list.proofs.reading.time_at.Goals as goal

pub returns-in-Some : goal.returns-in-Some
returns-in-Some c = sym (number_is_time c.args.text.now c.in-Some.rest.now c.in-Some.seconds c.in-Some.ensures)
