use Rattle.circle_run.proofs.Fairness.{turns_are_played, rounds_are_fair}
use Rattle.circle_run.proofs.laws.rounds_are_fair.Goals as goal

pub returns : goal.returns
returns c = record { played = turns_are_played; fair = rounds_are_fair c.nothing_waits_at_end.ensures }
