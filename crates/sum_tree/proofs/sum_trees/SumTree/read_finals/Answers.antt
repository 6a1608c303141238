use Rattle.sum_tree.proofs.Prelude.{◌≡◌, ℕ, ◌+◌, ◌-◌, ◌*◌, ◌≤◌, refl, sym, subst, ap, arith, min, sum_by, range_with_len, seen_of, LoadedFinal, Blocked, Known}
use Rattle.sum_tree.proofs.ReadLemmas.{final_more, final_none, blocks, first_child, many_children, one_loaded, on_load, on_sum}
use Rattle.sum_tree.proofs.sum_trees.SumTree.read_finals.Goals as goal

pub overflow_add-sum : goal.overflow_add-sum
overflow_add-sum c = let f = c.loop-child.invariant.fits in let t = c.load_step-found.type_inv in omega arith

pub loop-child-preserved : goal.loop-child-preserved
loop-child-preserved c =
    let inv = c.loop-child.invariant in
    let v = c.args.seat.now in let s = c.loop-child.seat in
    let L = one_loaded c.args.self.now v s (record s { seat = c.load_step-found.new.seat }) c.loop-child.child c.children_from-count.result
    c.load_step-found.result c.requires.seat.n inv.mine c.children_from-count.ensures c.loop-child.auto.child c.loop-child-test.true
    c.load_step-found.ensures.table c.load_step-found.ensures.after c.load_step-found.ensures.rises (refl, refl, refl, refl, refl) in
    let sum = on_sum L c.loop-child.sum inv.sum inv.same in
    record {
      mine = L.mine;
      same = inv.same;
      loaded = on_load L (LoadedFinal v.seat.me.0.own (first_child v)) (final_more v.seat.me.0.own s.seat.me.0.own (first_child v)
          (c.loop-child.child - first_child v) c.load_step-found.result inv.loaded L.long L.wide c.if-found-ne1.false);
      sum = sum.0;
      fits = (let f = c.load_step-found.ensures.fits in let p = sum.1 in omega arith);
    }

pub loop-child-init : goal.loop-child-init
loop-child-init c =
    let a : ℕ = c.args.seat.now.number * c.args.seat.now.width + 1 in
    let v : Known = c.args.seat.now.seat.me.0.own in
    let none : 0 ≡ a - a = omega arith in
    record {
      mine = c.requires.seat;
      same = (refl, refl, refl, refl, refl);
      loaded = subst (λ (j : ℕ). LoadedFinal v a j v) none (final_none v a);
      sum = ap (λ (j : ℕ). sum_by (seen_of v) (range_with_len a j)) none;
      fits = omega arith;
    }

pub returns-then-found-ne1-clause-mine : goal.returns-then-found-ne1-clause-mine
returns-then-found-ne1-clause-mine c =
    let inv = c.loop-child.invariant in
    let v = c.args.seat.now in let s = c.loop-child.seat in
    let L = one_loaded c.args.self.now v s (record s { seat = c.load_step-found.new.seat }) c.loop-child.child c.children_from-count.result
    c.load_step-found.result c.requires.seat.n inv.mine c.children_from-count.ensures c.loop-child.auto.child c.loop-child-test.true
    c.load_step-found.ensures.table c.load_step-found.ensures.after c.load_step-found.ensures.rises (refl, refl, refl, refl, refl) in
    L.mine

pub returns-then-found-ne1-clause-none : goal.returns-then-found-ne1-clause-none
returns-then-found-ne1-clause-none c =
    let inv = c.loop-child.invariant in
    let v = c.args.seat.now in let s = c.loop-child.seat in
    let L = one_loaded c.args.self.now v s (record s { seat = c.load_step-found.new.seat }) c.loop-child.child c.children_from-count.result
    c.load_step-found.result c.requires.seat.n inv.mine c.children_from-count.ensures c.loop-child.auto.child c.loop-child-test.true
    c.load_step-found.ensures.table c.load_step-found.ensures.after c.load_step-found.ensures.rises (refl, refl, refl, refl, refl) in
    subst (Blocked v.seat.me.0.own (range_with_len (first_child v) (many_children v))) (sym L.is) (blocks v.seat.me.0.own s.seat.me.0.own (first_child v)
    (c.loop-child.child - first_child v) (many_children v) c.load_step-found.result inv.loaded L.long L.room c.if-found-ne1.true)

pub returns-clause-some : goal.returns-clause-some
returns-clause-some c =
    let a : ℕ = c.args.seat.now.number * c.args.seat.now.width + 1 in
    let count : c.children_from-count.result ≡ min c.args.seat.now.width (c.args.seat.now.n - a) = c.children_from-count.ensures in
    let done : a + c.children_from-count.result ≤ c.loop-child.child = c.loop-child-test.false in
    let last = c.loop-child.auto.child-end in
    let low : a ≤ c.loop-child.child = c.loop-child.auto.child in
    let upto : c.loop-child.child ≤ a + c.children_from-count.result = omega arith in
    let whole : c.loop-child.child - a ≡ min c.args.seat.now.width (c.args.seat.now.n - a) = omega arith in
    subst (λ (j : ℕ). LoadedFinal c.args.seat.now.seat.me.0.own a j c.loop-child.seat.seat.me.0.own) whole c.loop-child.invariant.loaded
