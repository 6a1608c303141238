use Rattle.flat_list.proofs.Prelude.{arith, ◌≡◌, ◌+◌, ◌++◌, ◌∷◌, [], ◌∙◌, ap, sym, subst, take, List, IsPermutation, take_all, take_more, IsPermutation-trans}
use Rattle.flat_list.proofs.Prelude.{Entry, all_of}
use Rattle.flat_list.proofs.Cuts.{one_behind}
use Rattle.flat_list.proofs.runs.Cut.take_all.Goals as goal

pub loop-entry-preserved : goal.loop-entry-preserved
loop-entry-preserved c =
    let log = c.args.log.now in
    let k = c.loop-entry.entry-index in
    let e = c.entry-item.result in
    let before = all_of c.args.self.now in
    let one : take k log ++ e ∷ [] ≡ take (k + 1) log =
    ap (λ (x : Entry). take k log ++ x ∷ []) c.entry-item.is ∙ sym (take_more log k e c.loop-entry-test.true) in
    subst (λ (xs : List Entry). IsPermutation (before ++ xs) (all_of c.put.new.self)) one
    (one_behind before (take k log) _ _ e c.loop-entry.invariant c.in_ok-put.ensures)

pub returns : goal.returns
returns c =
    let log = c.args.log.now in
    let before = all_of c.args.self.now in
    let all = subst (λ (xs : List Entry). IsPermutation (before ++ xs) (all_of c.loop-entry.self))
    (take_all c.loop-entry.entry-index log (omega (arith, c.loop-entry-test.false)))
    c.loop-entry.invariant in
    IsPermutation-trans _ _ _ all c.in_ok-end.ensures.moved
