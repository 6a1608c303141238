use Rattle.sum_tree.proofs.Prelude.{◌≡◌, ◌+◌, take, sum_by, RankSum}
use Rattle.sum_tree.proofs.plain.PlainSums.total.Given as goal

abbrev pub invariant-loop-child : goal.invariant-loop-child
invariant-loop-child l = l.total ≡ l.initial.total + sum_by (λ (x : RankSum). x.word) (take l.child-index l.child-items)
