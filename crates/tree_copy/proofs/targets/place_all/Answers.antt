use Rattle.tree_copy.proofs.Prelude.{◌∙◌, ◌-◌, ap}
use Rattle.tree_copy.proofs.Items.{source_of}
use Rattle.tree_copy.proofs.targets.place_all.Goals as goal

pub add-requires-clause-source : goal.add-requires-clause-source
add-requires-clause-source c =
    source_of c.args.pairs.now c.args.list.now c.advance.new.self.0 (ap (λ s. s.0) c.in_ok-advance.ensures.passed ∙ c.loop-cursor.invariant.of_list)
    c.requires.list.in_source
    (c.advance.new.self.1 - 1) c.entry.result.now c.entry.ensures.at
