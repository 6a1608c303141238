use Rattle.sum_tree.proofs.Prelude.{arith, ◌<◌, ap, subst, sym, ◌∙◌, List, length, Some, SumTold, RankSum}
use Rattle.sum_tree.proofs.Gathers.{some_rank, first_word, gathered, first_answered}
use Rattle.sum_tree.proofs.plain.PlainSumsSums.gather.Goals as goal

pub index-requires : goal.index-requires
index-requires c =
    let some : 0 < length c.self.inside.ranks.items =
    subst (λ (xs : List RankSum). 0 < length xs) (sym (ap (λ (v : SumTold). v.ranks) c.self.view_is))
    (some_rank c.args.self.now c.args.all.items c.requires.all c.requires.some) in
    let ok = c.self.inside.ranks.ok in omega arith

pub returns-clause-sum : goal.returns-clause-sum
returns-clause-sum c =
    first_word c.args.self.now c.args.all.items c.requires.all c.self.inside.ranks.items c.index.result.now
    (ap (λ (v : SumTold). v.ranks) c.self.view_is) c.requires.some c.index.ensures
    ∙ gathered c.args.self.now c.args.all.items c.requires.all c.requires.some

pub returns-clause-first : goal.returns-clause-first
returns-clause-first c = λ s has lowest.
    first_answered c.args.self.now c.args.all.items c.requires.all s has lowest
    ∙ sym (ap Some (first_word c.args.self.now c.args.all.items c.requires.all c.self.inside.ranks.items c.index.result.now
    (ap (λ (v : SumTold). v.ranks) c.self.view_is) c.requires.some c.index.ensures))
