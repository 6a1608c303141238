use Rattle.flat_list.proofs.Prelude.{◌++◌, sym, subst, List, IsPermutation, IsPermutation-trans, Entry}
use Rattle.flat_list.proofs.Merged.{flat}
use Rattle.flat_list.proofs.Cuts.{taken}
use Rattle.flat_list.proofs.merging.turned.Goals as goal

pub loop-run-preserved : goal.loop-run-preserved
loop-run-preserved c =
    let before = c.loop-run.runs.items in
    let left = c.pop.new.self.items in
    let all = c.loop-run.all in
    let moved = taken before left c.in-Some.run' all c.in-Some.ensures.items in
    IsPermutation-trans _ _ _ c.loop-run.invariant
    (subst (λ (joined : List Entry). IsPermutation (flat before ++ all) (flat left ++ joined)) (sym c.in_ok-put_behind.ensures) moved)
