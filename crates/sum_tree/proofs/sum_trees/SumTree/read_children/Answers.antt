use Rattle.sum_tree.proofs.Prelude.{◌-◌, refl, arith, range_with_len, Loaded}
use Rattle.sum_tree.proofs.ReadLemmas.{loaded_more, first_child, one_loaded, on_load, on_sum}
use Rattle.sum_tree.proofs.sum_trees.SumTree.read_children.Goals as goal

pub overflow_add-sum : goal.overflow_add-sum
overflow_add-sum c = let f = c.loop-child.invariant.fits in let t = c.load_step.type_inv in omega arith

pub loop-child-preserved : goal.loop-child-preserved
loop-child-preserved c =
    let inv = c.loop-child.invariant in
    let v = c.args.seat.now in let s = c.loop-child.seat in
    let L = one_loaded c.args.self.now v s (record s { seat = c.load_step.new.seat }) c.loop-child.child c.children_from-count.result c.load_step.result
    c.requires.seat.n inv.mine c.children_from-count.ensures c.loop-child.auto.child c.loop-child-test.true c.load_step.ensures.table
    c.load_step.ensures.after c.load_step.ensures.rises (refl, refl, refl, refl, refl) in
    let sum = on_sum L c.loop-child.sum inv.sum inv.same in
    record {
      mine = L.mine;
      loaded = on_load L (λ j. Loaded v.seat.me.0.own (range_with_len (first_child v) j))
          (loaded_more v.seat.me.0.own s.seat.me.0.own (first_child v) (c.loop-child.child - first_child v) c.load_step.result inv.loaded L.long).0;
      sum = sum.0;
      fits = (let f = c.load_step.ensures.fits in let p = sum.1 in omega arith);
      same = inv.same;
    }

pub returns-clause-fits : goal.returns-clause-fits
returns-clause-fits c = c.loop-child.invariant.fits
