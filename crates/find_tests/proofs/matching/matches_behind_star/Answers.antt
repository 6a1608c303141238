use Rattle.find_tests.proofs.Prelude.{sym, ◌∙◌, chars}
use Rattle.find_tests.proofs.Matched.{star_whole}
use Rattle.find_tests.proofs.matching.matches_behind_star.Goals as goal

pub returns-in-Whole : goal.returns-in-Whole
returns-in-Whole c = sym (star_whole c.loop-behind.pieces.now (chars c.loop-behind.text.now) c.in-Whole.ensures) ∙ c.loop-behind.invariant.same
