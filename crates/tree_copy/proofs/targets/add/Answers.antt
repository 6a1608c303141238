use Rattle.tree_copy.proofs.Prelude.{◌∙◌, ◌++◌, ◌∷◌, [], ap, sym, append-nil}
use Rattle.tree_copy.proofs.Items.{Added, added_by, found, items_at}
use Rattle.tree_copy.proofs.targets.add.Goals as goal
use Rattle.tree_copy.proofs.targets.add.Goals.{In_ok-target}

-- what the entry adds, by its target
adds : (c : In_ok-target) → Added c.args.pairs.now c.args.entry.now c.in_ok-target.target
adds c = added_by c.args.pairs.now c.args.entry.now _ _ _
    (found _ _ _ _ _ c.requires.apart c.requires.pairs c.if-is_none.false c.is_none.ensures c.pair_of-k.ensures.inside c.index-pairs-k.is
    c.pair_of-k.ensures.within) c.in_ok-target.target c.in_ok-target.ensures.told

pub returns-in_ok-push-2-clause-items : goal.returns-in_ok-push-2-clause-items
returns-in_ok-push-2-clause-items c =
    let before = c.args.placed.now.items.items in
    let a = adds (goal.at.returns-in_ok-push-2-clause-items c).In_ok-target in
    c.in_ok-push-2.ensures.items ∙ ap (λ x. before ++ x ∷ []) c.in_ok-item_at.ensures
    ∙ sym (ap (λ r. before ++ r) (a.items ∙ ap (λ t. items_at t c.args.entry.now) c.in-Some.is))

pub returns-in_default-clause-items : goal.returns-in_default-clause-items
returns-in_default-clause-items c =
    let before = c.args.placed.now.items.items in
    let a = adds (goal.at.returns-in_default-clause-items c).In_ok-target in
    sym (append-nil before) ∙ sym (ap (λ r. before ++ r) (a.items ∙ ap (λ t. items_at t c.args.entry.now) c.in_default.is))

pub returns-in_ok-push-2-clause-fits : goal.returns-in_ok-push-2-clause-fits
returns-in_ok-push-2-clause-fits c = c.in_ok-push.ensures.items ∙ ap (λ b. c.args.placed.now.fits.items ++ b ∷ []) c.is_some.ensures
    ∙ sym (ap (λ r. c.args.placed.now.fits.items ++ r) (adds (goal.at.returns-in_ok-push-2-clause-fits c).In_ok-target).fits)

pub returns-in_default-clause-fits : goal.returns-in_default-clause-fits
returns-in_default-clause-fits c = c.in_ok-push.ensures.items ∙ ap (λ b. c.args.placed.now.fits.items ++ b ∷ []) c.is_some.ensures
    ∙ sym (ap (λ r. c.args.placed.now.fits.items ++ r) (adds (goal.at.returns-in_default-clause-fits c).In_ok-target).fits)
