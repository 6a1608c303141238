use Rattle.circle_lists.proofs.Unique.{damaged_once}
use Rattle.circle_lists.proofs.laws.damage_is_exact.Goals as goal

pub returns : goal.returns
returns c = damaged_once
