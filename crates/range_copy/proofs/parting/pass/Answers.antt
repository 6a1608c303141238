use Rattle.range_copy.proofs.Prelude.{◌∙◌, ◌∷◌, subst, sym, ArePartsOf}
use Rattle.range_copy.proofs.Passed.{small_less}
use Rattle.range_copy.proofs.parting.pass.Goals as goal

pub returns-then-exceeds-clause-parts : goal.returns-then-exceeds-clause-parts
returns-then-exceeds-clause-parts c rest all are =
    subst (λ e. ArePartsOf c.args.piece c.settle.new.parts (e ∷ rest) all) (sym c.in_ok-copy.ensures)
    (c.in_ok-settle.ensures c.args.piece (c.args.entry.now ∷ rest) all c.requires.held (c.stands_under-over.ensures rest) are)

pub returns-clause-parts : goal.returns-clause-parts
returns-clause-parts c rest all are =
    c.in_ok-keep.ensures c.args.piece rest all (small_less c.args.piece c.args.entry.now rest (sym c.exceeds.ensures ∙ c.if-exceeds.false))
    (c.in_ok-settle.ensures c.args.piece (c.args.entry.now ∷ rest) all c.requires.held (c.stands_under-over.ensures rest) are)
