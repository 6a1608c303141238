use Rattle.flat_list.proofs.Prelude.{◌+◌, ◌-◌, ◌*◌}
use Rattle.flat_list.proofs.halving.+halves.Given as goal

abbrev pub decreases-back : goal.decreases-back
decreases-back g l = 2 * l.few + 1

abbrev pub decreases-front : goal.decreases-front
decreases-front g l = 2 * (l.hosts - l.few) + 1

abbrev pub decreases-runs_by : goal.decreases-runs_by
decreases-runs_by g l = 2 * l.hosts
