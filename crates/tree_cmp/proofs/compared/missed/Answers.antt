use Rattle.tree_cmp.proofs.Prelude.{arith, [], ◌++◌, ◌<◌, length, take, ap, sym, ◌∙◌, List, cons_option, filter_map, Draft, Missed, missed_by}
use Rattle.tree_cmp.proofs.Lists.{filter_map_more}
use Rattle.tree_cmp.proofs.compared.missed.Goals as goal

pub loop-draft-preserved : goal.loop-draft-preserved
loop-draft-preserved c =
    let by = missed_by c.args.why c.args.left.now c.args.right.now in
    let drafts = c.args.drafts.now in
    let i = c.loop-draft.draft-index in
    let inside : i < length drafts = omega (arith, c.loop-draft-test.true) in
    c.in_ok-add_missed.ensures
    ∙ ap (λ (xs : List Missed). xs ++ cons_option (by c.draft-item.result) []) c.loop-draft.invariant
    ∙ ap (λ (d : Draft). filter_map by (take i drafts) ++ cons_option (by d) []) c.draft-item.is
    ∙ sym (filter_map_more by drafts i c.draft-item.result inside)
