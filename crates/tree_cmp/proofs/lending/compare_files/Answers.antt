use Rattle.tree_cmp.proofs.Prelude.{length, IfOk, IfSome, subst, sym, StatsTold, Findings, IsComparison, side}
use Rattle.tree_cmp.proofs.Counted.{taken_back}
use Rattle.tree_cmp.proofs.lending.compare_files.Goals as goal

pub compare-compared-requires-clause-left_told : goal.compare-compared-requires-clause-left_told
compare-compared-requires-clause-left_told g c κs within =
    subst (λ t. IfSome t (λ files. StatsTold files c.args.left.now)) (sym c.in_ok-readers.ensures.told) c.requires.left_told

pub compare-compared-requires-clause-right_told : goal.compare-compared-requires-clause-right_told
compare-compared-requires-clause-right_told g c κs within =
    subst (λ t. IfSome t (λ files. StatsTold files c.args.right.now)) (sym c.in_ok-readers.ensures.told) c.requires.right_told

pub returns-clause-found : goal.returns-clause-found
returns-clause-found g c =
    let l = side c.args.left_top.now c.args.left.now in
    let r = side c.args.right_top.now c.args.right.now in
    subst (λ t. IfOk c.compare-compared.result (IsComparison t l r)) c.in_ok-readers.ensures.told c.compare-compared.ensures.found

pub returns-clause-counted : goal.returns-clause-counted
returns-clause-counted g c =
    taken_back g.G.Reader.Tree.count c.in_ok-readers.readers.items c.compare-compared.new.readers.items c.compare-compared.result
    (λ (found : Findings). length found.failed) _ _ _ c.in_ok-readers.ensures.zero c.in_ok-readers.ensures.count c.in_ok-readers.ensures.fits
    c.take_back.ensures.count c.compare-compared.ensures.counted
