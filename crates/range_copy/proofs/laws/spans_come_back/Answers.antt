use Rattle.range_copy.proofs.Rejoined.{come_back}
use Rattle.range_copy.proofs.laws.spans_come_back.Goals as goal

pub returns : goal.returns
returns c = come_back c.nodes_are_under_directories.ensures
