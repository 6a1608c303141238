use Rattle.path_text.proofs.Parts.{by_last}
use Rattle.path_text.proofs.names.around_last_slash.Goals as goal

pub returns-clause-found : goal.returns-clause-found
returns-clause-found c = (by_last c.args.text.now _ c.rsplit_once.ensures.cases).0

pub returns-clause-none : goal.returns-clause-none
returns-clause-none c = (by_last c.args.text.now _ c.rsplit_once.ensures.cases).1
