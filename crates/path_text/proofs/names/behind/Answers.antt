use Rattle.path_text.proofs.Parts.{by_prefix}
use Rattle.path_text.proofs.names.behind.Goals as goal

pub returns-clause-found : goal.returns-clause-found
returns-clause-found c = (by_prefix c.args.text.now c.args.top.now _ c.strip_prefix.ensures.cases).0

pub returns-clause-none : goal.returns-clause-none
returns-clause-none c = (by_prefix c.args.text.now c.args.top.now _ c.strip_prefix.ensures.cases).1
