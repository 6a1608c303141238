use Rattle.test_tree.proofs.making.+path_of.Given as goal

abbrev pub decreases-path_of : goal.decreases-path_of
decreases-path_of l = l.k
