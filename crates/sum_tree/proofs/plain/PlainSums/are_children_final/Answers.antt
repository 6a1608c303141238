use Rattle.sum_tree.proofs.Prelude.{◌∙◌, rules, tests, YieldsList-from_slice, all_from_yields_List, RankSum}
use Rattle.sum_tree.proofs.Rows.{finals_are}
use Rattle.sum_tree.proofs.plain.PlainSums.are_children_final.Goals as goal

pub returns : goal.returns
returns c =
    all_from_yields_List (λ (x : RankSum). x.is_final) _ _ c.all.result c.all.ensures.ran (YieldsList-from_slice c.children.result.now cc)
    (λ x b q k. search (rules, tests))
    ∙ finals_are c.args.self.now c.args.seat.now.number c.children.result.now c.children.ensures
