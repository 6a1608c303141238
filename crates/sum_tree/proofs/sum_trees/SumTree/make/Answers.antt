use Rattle.sum_tree.proofs.Prelude.{rules}
use Rattle.sum_tree.proofs.StartLemmas.{starts}
use Rattle.sum_tree.proofs.sum_trees.SumTree.make.Goals as goal

pub of_words-requires : goal.of_words-requires
of_words-requires c = starts c.args.n c.args.width _ c.requires.one c.requires.at_most_64 c.requires.two_wide c.requires.at_most_64_wide (search rules)
