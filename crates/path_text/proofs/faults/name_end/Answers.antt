use Rattle.path_text.proofs.Split.{by_place}
use Rattle.path_text.proofs.faults.name_end.Goals as goal

pub returns-clause-found : goal.returns-clause-found
returns-clause-found c = (by_place c.args.bytes.now _ c.slash_at.ensures).0

pub returns-clause-last : goal.returns-clause-last
returns-clause-last c = (by_place c.args.bytes.now _ c.slash_at.ensures).1
