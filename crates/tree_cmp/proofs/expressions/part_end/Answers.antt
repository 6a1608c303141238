use Rattle.tree_cmp.proofs.Prelude.{◌==◌}
use Rattle.tree_cmp.proofs.Parts.{by_place}
use Rattle.tree_cmp.proofs.expressions.part_end.Goals as goal

pub returns-clause-found : goal.returns-clause-found
returns-clause-found c = (by_place (λ b. b == c.args.mark) c.args.text.now _ c.place_of.ensures).0

pub returns-clause-last : goal.returns-clause-last
returns-clause-last c = (by_place (λ b. b == c.args.mark) c.args.text.now _ c.place_of.ensures).1
