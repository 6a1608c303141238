use Rattle.disk_calls.proofs.Prelude.{◌∙◌, sym, arith, rules}
use Rattle.disk_calls.proofs.Ascending.{first_name, next_name, less_from_lower}
use Rattle.disk_calls.proofs.names.ascends.Goals as goal

pub returns-then-len-eq0 : goal.returns-then-len-eq0
returns-then-len-eq0 c = λ t s. first_name _ _ (search rules)

pub returns-else-len-eq0 : goal.returns-else-len-eq0
returns-else-len-eq0 c = λ t s. next_name _ _ _ _ c.name.ensures (grind arith) (less_from_lower _ (sym c.lt.ensures ∙ t)) s
