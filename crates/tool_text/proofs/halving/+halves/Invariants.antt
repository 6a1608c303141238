use Rattle.tool_text.proofs.Prelude.{◌+◌, ◌-◌, ◌*◌}
use Rattle.tool_text.proofs.halving.+halves.Given as goal

abbrev pub decreases-back : goal.decreases-back
decreases-back g l = 2 * l.few + 1

abbrev pub decreases-front : goal.decreases-front
decreases-front g l = 2 * (l.hosts - l.few) + 1

abbrev pub decreases-lines_by : goal.decreases-lines_by
decreases-lines_by g l = 2 * l.hosts
