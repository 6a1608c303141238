use Rattle.sum_tree.proofs.Prelude.{◌≡◌, ◌∙◌, refl, ap, arith, length, SeatState}
use Rattle.sum_tree.proofs.GatherLemmas.{begun, fits, went_on, some_ranks, total_of}
use Rattle.sum_tree.proofs.tree_sums.RefSumTreeSums.gather.Goals as goal

pub loop-other-init : goal.loop-other-init
loop-other-init c =
    let p = begun c.args.self.now.now c.args.all.items c.requires.all c.in-Some.last c.in-Some.ensures.items
    (ap (λ s. s.table_id) c.apart-first.ensures.0) (ap (λ s. s.me) c.apart-first.ensures.0) c.apart-first.ensures.1 in
    record { table = p.0; tree = refl; live = p.1; together = p.2 }

pub loop-other-preserved : goal.loop-other-preserved
loop-other-preserved c =
    let inv = c.loop-other.invariant in
    record {
      table = c.join_step.ensures.table ∙ inv.table;
      tree = inv.tree;
      live = ap (λ (m : SeatState). m.0.live) c.join_step.ensures.both ∙ inv.live;
      together = went_on c.args.self.now.now c.args.all.items c.requires.all c.in-Some-pop.other inv.together c.in-Some-pop.ensures.items
          (ap (λ s. s.me) c.apart-theirs.ensures.0) c.apart-theirs.ensures.1 (ap (λ (m : SeatState). m.0) c.join_step.ensures.both);
    }

pub join_step-requires-clause-some : goal.join_step-requires-clause-some
join_step-requires-clause-some c = some_ranks c.args.self.now.now c.args.all.items c.requires.all c.requires.some

pub sum_step-requires-clause-some : goal.sum_step-requires-clause-some
sum_step-requires-clause-some c = some_ranks c.args.self.now.now c.args.all.items c.requires.all c.requires.some

pub join_step-requires-clause-theirs : goal.join_step-requires-clause-theirs
join_step-requires-clause-theirs c =
    fits c.args.self.now.now c.args.all.items c.requires.all c.pop-in-loop-other.new.self.items c.in-Some-pop.other c.loop-other.invariant.together
    c.in-Some-pop.ensures.items (ap (λ s. s.table_id) c.apart-theirs.ensures.0) (ap (λ s. s.me) c.apart-theirs.ensures.0)

pub returns-clause-sum : goal.returns-clause-sum
returns-clause-sum c =
    let none : length c.loop-other.all.items ≡ 0 = (let a = c.in_default-pop.ensures.cases in let b = c.loop-other.all.ok in omega arith) in
    (total_of c.args.self.now.now c.args.all.items c.requires.all c.loop-other.invariant.together none c.requires.some c.sum_step.ensures.totals).0

pub returns-clause-first : goal.returns-clause-first
returns-clause-first c =
    let none : length c.loop-other.all.items ≡ 0 = (let a = c.in_default-pop.ensures.cases in let b = c.loop-other.all.ok in omega arith) in
    (total_of c.args.self.now.now c.args.all.items c.requires.all c.loop-other.invariant.together none c.requires.some c.sum_step.ensures.totals).1
