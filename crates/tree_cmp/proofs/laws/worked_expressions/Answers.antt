use Rattle.tree_cmp.proofs.Prelude.{refl}
use Rattle.tree_cmp.proofs.laws.worked_expressions.Goals as goal

pub returns : goal.returns
returns c = record { two_terms = refl; bad_state = refl; bad_field = refl; no_equals = refl; first = refl; empty = refl }
