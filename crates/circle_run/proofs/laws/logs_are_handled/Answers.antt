use Rattle.circle_run.proofs.Logs.{logs_are_handled, events_tell_logs}
use Rattle.circle_run.proofs.laws.logs_are_handled.Goals as goal

pub returns : goal.returns
returns c = record { logs = logs_are_handled; events = events_tell_logs }
