use Rattle.ring_core.proofs.Prelude.{◌≡◌, take, count_by, started, IsRun, after_all, is_handle}
use Rattle.ring_core.proofs.runs.check_run.Given as goal

abbrev pub invariant-loop-at : goal.invariant-loop-at
invariant-loop-at l = record {
  legal : IsRun (started l.n l.starts) (take l.at l.events);
  reached : l.world ≡ after_all (started l.n l.starts) (take l.at l.events);
  counted : l.handled ≡ count_by is_handle (take l.at l.events);
}
