use Rattle.level_work.proofs.Prelude.{ap, subst, sym, ◌∙◌, arith, IfSome, is_some, slice_get_within, slice_get-get_or, part_tree, part_area, AllBack}
use Rattle.level_work.proofs.Giving.{start, step, is_out_now, take_all}
use Rattle.level_work.proofs.leasing.give_all.Goals as goal

pub loop-i-init : goal.loop-i-init
loop-i-init g c = start _ _ _ _ _ _ _ c.requires.area

pub give_one-requires-clause-out : goal.give_one-requires-clause-out
give_one-requires-clause-out g c =
    λ p e. is_out_now g.G.Part.Plot.tree g.G.Part.Plot.area g.G.Part.Plot.count c.args.lots.now c.loop-i.i _ p _
    (sym (c.loop-i.invariant.rest c.loop-i.i (omega arith))
    ∙ slice_get-get_or c.loop-i.lots c.loop-i.i c.index-lots-i.result (omega (arith, c.loop-i-test.true, c.loop-i.auto))) e
    (c.requires.under c.loop-i.i _ p
    (sym (c.loop-i.invariant.rest c.loop-i.i (omega arith))
    ∙ slice_get-get_or c.loop-i.lots c.loop-i.i c.index-lots-i.result (omega (arith, c.loop-i-test.true, c.loop-i.auto))) e)
    c.loop-i.invariant.at

pub give_one-requires-clause-tells : goal.give_one-requires-clause-tells
give_one-requires-clause-tells g c = λ p e. ap (λ o. is_some (part_tree g.G.Part.Plot.tree o)) (sym e)
    ∙ c.requires.tells c.loop-i.i _ p
    (sym (c.loop-i.invariant.rest c.loop-i.i (omega arith))
    ∙ slice_get-get_or c.loop-i.lots c.loop-i.i c.index-lots-i.result (omega (arith, c.loop-i-test.true, c.loop-i.auto))) e
    ∙ sym c.loop-i.invariant.tells

pub loop-i-preserved : goal.loop-i-preserved
loop-i-preserved g c = step g.G.Part.Plot.tree g.G.Part.Plot.area g.G.Part.Plot.count c.loop-i.i c.args.lots.now c.loop-i.lots
    _ c.give_one.new.lot _ _ _ _ _ _ _ _
    (slice_get-get_or c.loop-i.lots c.loop-i.i c.index-lots-i.result (omega (arith, c.loop-i-test.true, c.loop-i.auto)))
    c.give_one.ensures.lot c.requires.under c.requires.tells c.give_one.ensures.same c.give_one.ensures.tree c.give_one.ensures.area
    c.give_one.ensures.count c.give_one.ensures.kept c.give_one.ensures.tells c.loop-i.invariant

pub returns-clause-home : goal.returns-clause-home
returns-clause-home g c =
    λ i lot at. c.loop-i.invariant.home i lot
    (omega (arith, slice_get_within c.loop-i.lots i lot at, c.loop-i-test.false, c.loop-i.auto)) at

pub returns-clause-told : goal.returns-clause-told
returns-clause-told g c =
    subst (λ l. IfSome (g.G.Plot.tree c.args.ground.now)
    (λ r. IfSome (g.G.Plot.tree c.loop-i.ground) (AllBack (part_tree g.G.Part.Plot.tree) (part_area g.G.Part.Plot.area) l r)))
    (take_all c.args.lots.now c.loop-i.i (omega (arith, c.loop-i.invariant.len, c.loop-i-test.false, c.loop-i.auto)))
    c.loop-i.invariant.told
