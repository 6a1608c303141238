use Rattle.circle_run.proofs.Prelude.{rules, arith, ◌≡◌, ◌==◌, ℕ, false, length, [], ◌∷◌, ◌%◌, All, subst, ap, sym, ◌∙◌, All-nil, All-cons, All-append, Rank}
use Rattle.circle_run.proofs.Prelude.{sum_by, into_iter_items, nil_from_length, sum_by-cons, sum_by-append, one_if}
use Rattle.circle_run.proofs.Parted.{parted_first, parted_chosen, parted_rest}
use Rattle.circle_run.proofs.spread.split.Goals as goal

pub loop-rank-init : goal.loop-rank-init
loop-rank-init g c =
    let s : into_iter_items c.into_iter-rank-iterator.result ≡ c.args.ranks.items = search rules in
    record {
      len = search rules;
      parted = parted_first c.args.whole.now.value.items c.args.ranks.items c.new-chosen.result.items c.in_ok-rest.rest.items
          (into_iter_items c.into_iter-rank-iterator.result) c.requires.ranks c.new-chosen.ensures.items c.in_ok-rest.ensures.items s;
      own = (let F : Rank g.row.J.Denot g.row.S.Denot g.row.T.Denot → Type 0 = λ r. r.me % c.args.hosts ≡ c.args.host in
          subst (All F) (sym c.new-chosen.ensures.items) (All-nil F));
      left = ap (sum_by (λ r. one_if (r.me % c.args.hosts == c.args.host))) c.in_ok-rest.ensures.items;
    }

pub returns-clause-numbers : goal.returns-clause-numbers
returns-clause-numbers g c =
    let i = c.loop-rank.invariant in
    let z = c.in-None.ensures.steps in
    let e : into_iter_items c.loop-rank.rank-iterator ≡ [] = nil_from_length (into_iter_items c.loop-rank.rank-iterator) (sym i.len ∙ z.0) in
    λ h. omega (arith, i.parted.numbers h, ap (sum_by (λ r. h r.me)) e)

pub loop-rank-preserved-in-Continue-branch-2 : goal.loop-rank-preserved-in-Continue-branch-2
loop-rank-preserved-in-Continue-branch-2 g c =
    let i = c.loop-rank.invariant in
    let e : into_iter_items c.loop-rank.rank-iterator ≡ c.in-Some.rank ∷ into_iter_items c.next.new.self = search rules in
    record {
      len = (let n = ap length e in let f = i.len in let st = c.in-Some.ensures.steps in search rules);
      parted = parted_chosen c.args.whole.now.value.items c.args.ranks.items c.loop-rank.chosen.items c.loop-rank.rest.items
          (into_iter_items c.loop-rank.rank-iterator)
          (into_iter_items c.next.new.self) c.push.new.self.items c.in-Some.rank e c.in_ok-push.ensures.items i.parted;
      own = (let F : Rank g.row.J.Denot g.row.S.Denot g.row.T.Denot → Type 0 = λ r. r.me % c.args.hosts ≡ c.args.host in
          let is : c.in-Some.rank.me % c.args.hosts ≡ c.args.host = search rules in
          subst (All F) (sym c.in_ok-push.ensures.items)
          (All-append F c.loop-rank.chosen.items (c.in-Some.rank ∷ []) i.own (All-cons F c.in-Some.rank [] is (All-nil F))));
      left = i.left;
    }

pub loop-rank-preserved : goal.loop-rank-preserved
loop-rank-preserved g c =
    let i = c.loop-rank.invariant in
    let e : into_iter_items c.loop-rank.rank-iterator ≡ c.in-Some.rank ∷ into_iter_items c.next.new.self = search rules in
    record {
      len = (let n = ap length e in let f = i.len in let st = c.in-Some.ensures.steps in search rules);
      parted = parted_rest c.args.whole.now.value.items c.args.ranks.items c.loop-rank.chosen.items c.loop-rank.rest.items
          (into_iter_items c.loop-rank.rank-iterator)
          (into_iter_items c.next.new.self) c.push-else-number-hosts.new.self.items c.in-Some.rank e c.in_ok-push-2.ensures.items i.parted;
      own = i.own;
      left = (let f : Rank g.row.J.Denot g.row.S.Denot g.row.T.Denot → ℕ = λ r. one_if (r.me % c.args.hosts == c.args.host) in
          let other : (c.in-Some.rank.me % c.args.hosts == c.args.host) ≡ false = search rules in
          let one : f c.in-Some.rank ≡ 0 = ap one_if other in
          omega (
            arith,
            i.left,
            one,
            ap (sum_by f) c.in_ok-push-2.ensures.items,
            sum_by-append f c.loop-rank.rest.items (c.in-Some.rank ∷ []),
            sum_by-cons f c.in-Some.rank [],
          ));
    }
