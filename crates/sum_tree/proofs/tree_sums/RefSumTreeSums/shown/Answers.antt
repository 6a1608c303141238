use Rattle.sum_tree.proofs.Prelude.{refl}
use Rattle.sum_tree.proofs.ReadLemmas.{still}
use Rattle.sum_tree.proofs.tree_sums.RefSumTreeSums.shown.Goals as goal

pub returns-clause-mine : goal.returns-clause-mine
returns-clause-mine c = still c.args.self.now.now c.args.seat.now _ c.args.seat.now.number c.load_step-found.result c.requires.seat
    c.requires.seat.mine.inside c.load_step-found.ensures.table c.load_step-found.ensures.after c.load_step-found.ensures.rises
    (refl, refl, refl, refl, refl)
