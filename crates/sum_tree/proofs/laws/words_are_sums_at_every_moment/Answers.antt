use Rattle.sum_tree.proofs.MomentLemmas.{words_told, seats_told}
use Rattle.sum_tree.proofs.laws.words_are_sums_at_every_moment.Goals as goal

pub returns-clause-words : goal.returns-clause-words
returns-clause-words c = words_told

pub returns-clause-seats : goal.returns-clause-seats
returns-clause-seats c = seats_told

pub returns-clause-at_most : goal.returns-clause-at_most
returns-clause-at_most c n width s o r = o.moment.sound.at_most r

pub returns-clause-exact : goal.returns-clause-exact
returns-clause-exact c n width s o r final = o.moment.sound.exact r final
