use Rattle.tree_copy.proofs.Prelude.{length, ◌-◌, ◌∙◌, sym, refl, ap, ◌||◌, map, take, drop, overlap}
use Rattle.tree_copy.proofs.Overlaps.{target, targets_more}
use Rattle.tree_copy.proofs.placing.targets_overlap.Goals as goal

pub returns-then-meets_target : goal.returns-then-meets_target
returns-then-meets_target c =
    let rest = c.loop-rest.rest.now in
    let more = targets_more rest c.pair-item.result (length rest - 1) c.in-len1-up.len_at_least c.pair-item.is refl in
    let meets = sym c.meets_target.ensures ∙ c.if-meets_target.true in
    sym (c.loop-rest.invariant ∙ more ∙ ap (λ b. b || overlap (map target (take (length rest - 1) (drop 1 rest)))) meets)

pub loop-rest-preserved : goal.loop-rest-preserved
loop-rest-preserved c =
    let rest = c.loop-rest.rest.now in
    let more = targets_more rest c.pair-item.result (length rest - 1) c.in-len1-up.len_at_least c.pair-item.is refl in
    let meets = sym c.meets_target.ensures ∙ c.if-meets_target.false in
    c.loop-rest.invariant ∙ more ∙ ap (λ b. b || overlap (map target (take (length rest - 1) (drop 1 rest)))) meets
