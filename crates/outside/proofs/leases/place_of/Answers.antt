use Rattle.outside.proofs.Prelude.{ap, sym, ◌∙◌, arith, same_tops}
use Rattle.outside.proofs.Places.{first_place, some_place, more_before}
use Rattle.outside.proofs.leases.place_of.Goals as goal

pub loop-k-init : goal.loop-k-init
loop-k-init c = λ j v l at. absurd (omega (arith, l))

pub returns-then-eq-clause-first : goal.returns-then-eq-clause-first
returns-then-eq-clause-first c =
    first_place c.args.out.now c.loop-k.k c.args.tops.now c.index-out-k.result c.loop-k.invariant c.loop-k-test.true
    (ap (λ w. same_tops w c.args.tops.now) (sym c.index-out-k.is) ∙ ap (λ xs. same_tops xs c.args.tops.now) (sym c.paths.ensures)
    ∙ sym c.eq.ensures ∙ c.if-eq.true)

pub loop-k-preserved : goal.loop-k-preserved
loop-k-preserved c = more_before c.args.out.now c.loop-k.k c.args.tops.now c.index-out-k.result c.loop-k.invariant c.loop-k-test.true
    (ap (λ w. same_tops w c.args.tops.now) (sym c.index-out-k.is) ∙ ap (λ xs. same_tops xs c.args.tops.now) (sym c.paths.ensures)
    ∙ sym c.eq.ensures ∙ c.if-eq.false)

pub unreachable-requires : goal.unreachable-requires
unreachable-requires c = some_place c.args.out.now c.loop-k.k c.args.tops.now c.loop-k.invariant c.loop-k-test.false c.requires
