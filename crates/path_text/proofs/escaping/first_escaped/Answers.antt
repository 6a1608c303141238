use Rattle.path_text.proofs.Plain.{by_escaped}
use Rattle.path_text.proofs.escaping.first_escaped.Goals as goal

pub returns-clause-found : goal.returns-clause-found
returns-clause-found c = (by_escaped c.args.bytes.now _ c.escaped_at.ensures).0

pub returns-clause-none : goal.returns-clause-none
returns-clause-none c = (by_escaped c.args.bytes.now _ c.escaped_at.ensures).1
