use Rattle.circle_run.proofs.Prelude.{rules, arith, ◌≡◌, ℕ, suc, ◌+◌, ◌<◌, length, All, List, [], ◌∷◌, ◌++◌, length-append, ap, sym, subst, ◌∙◌, ◌==◌, Vec}
use Rattle.circle_run.proofs.Prelude.{Global, Rank, sum_by, into_iter_items, nil_from_length, sum_by-cons, sum_by-append, All-nil, All-tail, All-permutation}
use Rattle.circle_run.proofs.Prelude.{sum_by-IsPermutation, one_if, IsOne, IsHost, AreDone, MayRun, started_numbers, IsStarted}
use Rattle.circle_run.proofs.Joined.{ready_of, done_of, done_append, done_numbers, done_none, done_same}
use Rattle.circle_run.proofs.Places.{once_whole, ones}
use Rattle.circle_run.proofs.Pooling.{fits_next}
use Rattle.circle_run.proofs.threads.run_hosts.Goals as goal

-- there is a flag for the next host
flag_within : (k hosts rest flags others : ℕ) → k + hosts ≡ others → hosts ≡ suc rest → flags ≡ others → k < flags
flag_within k hosts rest flags others all next same = omega (arith, all, next, same)

pub flag_at-flag-requires : goal.flag_at-flag-requires
flag_at-flag-requires g c =
    let e : into_iter_items c.loop-ranks.ranks-iterator ≡ c.in-Some.ranks ∷ into_iter_items c.next.new.self = search rules in
    flag_within c.loop-ranks.k (length (into_iter_items c.loop-ranks.ranks-iterator)) (length (into_iter_items c.next.new.self))
    (length c.args.flags.now) (length c.args.others.items) c.loop-ranks.invariant.flags (ap length e) c.requires.flags

pub loop-ranks-init : goal.loop-ranks-init
loop-ranks-init g c =
    let w = c.args.whole.now.value.items in
    let s : into_iter_items c.into_iter-ranks-iterator.result ≡ c.args.others.items = search rules in
    let empty = c.requires.empty in
    let F = IsStarted w c.args.post c.args.sums in
    record {
      len = search rules;
      flags = search rules;
      pooled = record {
        mine = c.requires.mine;
        done = done_none g.J.Job.log g.J.Job.plain g.P.Post.shows g.P.Post.seats g.Q.Sums.shows g.Q.Sums.seats w c.args.post c.args.sums
            c.args.pool.done.items empty.0;
        started = subst (All F) (sym empty.1) (All-nil F);
      };
      room = c.requires.room;
      few = (let n = ap length empty.1 in let m = ap length s in omega arith);
      none = empty.2;
      rest = subst (All (λ host. IsHost w host.items)) (sym s) c.requires.others;
      numbers = λ h. omega (
        arith,
        c.requires.numbers h,
        ap (sum_by (λ host. sum_by (λ r. h r.me) host.items)) s,
        ap (sum_by (λ r. h r.me)) empty.0,
        ap (started_numbers h) empty.1,
      );
    }

pub loop-ranks-preserved : goal.loop-ranks-preserved
loop-ranks-preserved g c =
    let w = c.args.whole.now.value.items in
    let i = c.loop-ranks.invariant in
    let a = c.add_host.ensures in
    let e : into_iter_items c.loop-ranks.ranks-iterator ≡ c.in-Some.ranks ∷ into_iter_items c.next.new.self = search rules in
    let F : Vec (Rank g.row.J.Denot g.row.S.Denot g.row.T.Denot) Global → Type 0 = λ host. IsHost w host.items in
    record {
      len = (let n = ap length e in let f = i.len in let st = c.in-Some.ensures.steps in search rules);
      flags = (let n = ap length e in let f = i.flags in omega arith);
      pooled = a.pooled;
      room = a.room (length w) (length c.args.others.items) i.room;
      few = (let n = ap length e in let f = i.few in let m = a.few in omega arith);
      none = a.all ∙ i.none;
      rest = All-tail F c.in-Some.ranks (into_iter_items c.next.new.self) (subst (All F) e i.rest);
      numbers = λ h. omega (
        arith,
        i.numbers h,
        a.numbers h,
        ap (sum_by (λ host. sum_by (λ r. h r.me) host.items)) e,
        sum_by-cons (λ host. sum_by (λ r. h r.me) host.items) c.in-Some.ranks (into_iter_items c.next.new.self),
      );
    }

pub add_host-requires-clause-ranks : goal.add_host-requires-clause-ranks
add_host-requires-clause-ranks g c κs within =
    let e : into_iter_items c.loop-ranks.ranks-iterator ≡ c.in-Some.ranks ∷ into_iter_items c.next.new.self = search rules in
    (subst (All (λ host. IsHost c.args.whole.now.value.items host.items)) e c.loop-ranks.invariant.rest) 0 c.in-Some.ranks (omega arith)

pub add_host-requires-clause-fits : goal.add_host-requires-clause-fits
add_host-requires-clause-fits g c κs within =
    let i = c.loop-ranks.invariant in
    let e : into_iter_items c.loop-ranks.ranks-iterator ≡ c.in-Some.ranks ∷ into_iter_items c.next.new.self = search rules in
    let rest = into_iter_items c.next.new.self in
    let one = sum_by-cons (λ host. sum_by (λ r. 1) host.items) c.in-Some.ranks rest in
    fits_next c.args.whole.now.value.items c.in-Some.ranks.items (sum_by (λ host. sum_by (λ r. 1) host.items) rest)
    (length c.args.others.items) c.loop-ranks.pool i.room
    (omega (arith, i.numbers (λ k. 1), ap (sum_by (λ host. sum_by (λ r. 1) host.items)) e, one)) (let n = ap length e in let f = i.few in omega arith)

pub in_order-requires : goal.in_order-requires
in_order-requires g c = record {
  once =
      λ v. (let i = c.loop-ranks.invariant.numbers (λ k. one_if (k == v)) in
      let o = once_whole c.args.whole.now.value.items c.requires.placed v in omega arith);
}

pub run_host-requires : goal.run_host-requires
run_host-requires g c = record {
  untold = c.requires.untold.0;
  sums_untold = c.requires.untold.1;
  order = c.in_order.ensures.order;
  ready = ready_of g.J.Job.log g.J.Job.plain g.P.Post.shows g.P.Post.seats g.Q.Sums.shows g.Q.Sums.seats c.args.whole.now.value.items
      c.args.post c.args.sums c.in_order.result.items c.requires.ready
      (All-permutation (IsOne c.args.whole.now.value.items) c.loop-ranks.pool.mine.items c.in_order.result.items c.in_order.ensures.same
      c.loop-ranks.invariant.pooled.mine);
}

pub add_all-requires : goal.add_all-requires
add_all-requires g c =
    let i = c.loop-ranks.invariant in
    let w = c.args.whole.now.value.items in
    let n = i.numbers (λ k. 1) in
    let r = done_numbers g.J.Job.log g.J.Job.plain g.P.Post.shows g.P.Post.seats g.Q.Sums.shows g.Q.Sums.seats c.args.post c.args.sums c.in_order.result.items
    c.run_host.result.items c.run_host.ensures.ran (λ k. 1) in
    let s = sum_by-IsPermutation (λ r. 1) c.loop-ranks.pool.mine.items c.in_order.result.items c.in_order.ensures.same in
    let a = ap length i.none in
    let m = i.room.all in
    record { room = omega (arith, n, r, s, a, m, ones c.run_host.result.items, ones w) }

pub add_all-requires-2 : goal.add_all-requires-2
add_all-requires-2 g c =
    let i = c.loop-ranks.invariant in
    let w = c.args.whole.now.value.items in
    let n = i.numbers (λ k. 1) in
    let r = done_numbers g.J.Job.log g.J.Job.plain g.P.Post.shows g.P.Post.seats g.Q.Sums.shows g.Q.Sums.seats c.args.post c.args.sums c.in_order.result.items
    c.run_host.result.items c.run_host.ensures.ran (λ k. 1) in
    let s = sum_by-IsPermutation (λ r. 1) c.loop-ranks.pool.mine.items c.in_order.result.items c.in_order.ensures.same in
    let a = ap length i.none in
    let b = ap length c.add_all.ensures.items in
    let l = length-append c.loop-ranks.pool.all.items c.run_host.result.items in
    let m = i.room.all in
    let f = c.add_all.ensures.room in
    record { room = omega (arith, n, r, s, a, b, l, m, f, ones c.run_host.result.items, ones c.loop-ranks.pool.done.items, ones w) }

pub loop-host-init : goal.loop-host-init
loop-host-init g c =
    let i = c.loop-ranks.invariant in
    let w = c.args.whole.now.value.items in
    let z = c.in-None.ensures.steps in
    let e : into_iter_items c.loop-ranks.ranks-iterator ≡ [] = nil_from_length (into_iter_items c.loop-ranks.ranks-iterator) (sym i.len ∙ z.0) in
    let s : into_iter_items c.into_iter-host-iterator.result ≡ c.loop-ranks.pool.started.items = search rules in
    let ran = c.run_host.ensures.ran in
    let here = c.run_host.result.items in
    let ones = All-permutation (IsOne w) c.loop-ranks.pool.mine.items c.in_order.result.items c.in_order.ensures.same i.pooled.mine in
    let done = done_of g.J.Job.log g.J.Job.plain g.P.Post.shows g.P.Post.seats g.Q.Sums.shows g.Q.Sums.seats w c.args.post c.args.sums
    c.in_order.result.items here ones ran in
    let all : c.add_all-2.new.list.items ≡ here ++ c.loop-ranks.pool.done.items =
    c.add_all-2.ensures.items ∙ ap (λ (xs : List _). xs ++ c.loop-ranks.pool.done.items) (c.add_all.ensures.items ∙ ap (λ (xs : List _). xs ++ here) i.none) in
    record {
      len = search rules;
      at = c.run_host.ensures.still.0;
      counts = c.run_host.ensures.still.1;
      all = subst (AreDone g.J.Job.log g.J.Job.plain g.P.Post.shows g.P.Post.seats g.Q.Sums.shows g.Q.Sums.seats w c.args.post c.args.sums) (sym all)
          (done_append g.J.Job.log g.J.Job.plain g.P.Post.shows g.P.Post.seats g.Q.Sums.shows g.Q.Sums.seats w c.args.post c.args.sums here
          c.loop-ranks.pool.done.items done i.pooled.done);
      started = subst (All (IsStarted w c.args.post c.args.sums)) (sym s) i.pooled.started;
      room = (let m = i.room.all in let a = c.add_all.ensures.room in let b = c.add_all-2.ensures.room in omega (arith, m, a, b));
      numbers = λ h. omega (
        arith,
        i.numbers h,
        done_numbers g.J.Job.log g.J.Job.plain g.P.Post.shows g.P.Post.seats g.Q.Sums.shows g.Q.Sums.seats c.args.post c.args.sums
            c.in_order.result.items here ran h,
        sum_by-IsPermutation (λ r. h r.me) c.loop-ranks.pool.mine.items c.in_order.result.items c.in_order.ensures.same,
        ap (sum_by (λ r. h r.me)) all,
        sum_by-append (λ r. h r.me) here c.loop-ranks.pool.done.items,
        ap (started_numbers h) s,
        ap (sum_by (λ host. sum_by (λ r. h r.me) host.items)) e,
      );
    }

pub finish-requires-clause-at : goal.finish-requires-clause-at
finish-requires-clause-at g c =
    let i = c.loop-host.invariant in
    let e : into_iter_items c.loop-host.host-iterator ≡ c.in-Some-host.host ∷ into_iter_items c.next-in-loop-host.new.self = search rules in
    let x = subst (All (IsStarted c.args.whole.now.value.items c.args.post c.args.sums)) e i.started 0 c.in-Some-host.host (omega arith) in
    (x.at ∙ sym i.at, x.counts ∙ sym i.counts)

pub finish-requires-clause-ready : goal.finish-requires-clause-ready
finish-requires-clause-ready g c =
    let i = c.loop-host.invariant in
    let e : into_iter_items c.loop-host.host-iterator ≡ c.in-Some-host.host ∷ into_iter_items c.next-in-loop-host.new.self = search rules in
    let x = subst (All (IsStarted c.args.whole.now.value.items c.args.post c.args.sums)) e i.started 0 c.in-Some-host.host (omega arith) in
    subst (λ p. MayRun g.J.Job.log g.P.Post.shows g.P.Post.tells g.P.Post.seats g.Q.Sums.shows g.Q.Sums.tells g.Q.Sums.seats p c.loop-host.counts
    c.in-Some-host.host.before.value.items) (sym i.at)
    (subst (λ q. MayRun g.J.Job.log g.P.Post.shows g.P.Post.tells g.P.Post.seats g.Q.Sums.shows g.Q.Sums.tells g.Q.Sums.seats c.args.post q
    c.in-Some-host.host.before.value.items) (sym i.counts)
    record {
      untold = c.requires.untold.0;
      sums_untold = c.requires.untold.1;
      order = x.host.order;
      ready = ready_of g.J.Job.log g.J.Job.plain g.P.Post.shows g.P.Post.seats g.Q.Sums.shows g.Q.Sums.seats c.args.whole.now.value.items
          c.args.post c.args.sums
          c.in-Some-host.host.before.value.items c.requires.ready x.host.ones;
    })

pub add_all-requires-in-loop-host : goal.add_all-requires-in-loop-host
add_all-requires-in-loop-host g c =
    let i = c.loop-host.invariant in
    let w = c.args.whole.now.value.items in
    let host = c.in-Some-host.host in
    let rest = into_iter_items c.next-in-loop-host.new.self in
    let e : into_iter_items c.loop-host.host-iterator ≡ host ∷ rest = search rules in
    let n = i.numbers (λ k. 1) ∙ ones w in
    let h = ap (started_numbers (λ k. 1)) e in
    let s = sum_by-cons (λ x. sum_by (λ r. 1) x.before.value.items) host rest in
    let f = done_numbers g.J.Job.log g.J.Job.plain g.P.Post.shows g.P.Post.seats g.Q.Sums.shows g.Q.Sums.seats c.loop-host.at c.loop-host.counts
    host.before.value.items c.finish.result.items c.finish.ensures.ran (λ k. 1) in
    let m = i.room in
    record { room = omega (arith, n, h, s, f, m, ones c.loop-host.all.items, ones c.finish.result.items) }

pub loop-host-preserved : goal.loop-host-preserved
loop-host-preserved g c =
    let i = c.loop-host.invariant in
    let w = c.args.whole.now.value.items in
    let host = c.in-Some-host.host in
    let rest = into_iter_items c.next-in-loop-host.new.self in
    let e : into_iter_items c.loop-host.host-iterator ≡ host ∷ rest = search rules in
    let x = subst (All (IsStarted w c.args.post c.args.sums)) e i.started 0 host (omega arith) in
    let ran = c.finish.ensures.ran in
    let came = done_same g.J.Job.log g.J.Job.plain g.P.Post.shows g.P.Post.seats g.Q.Sums.shows g.Q.Sums.seats w c.args.post c.loop-host.at c.args.sums
    c.loop-host.counts c.finish.result.items i.at i.counts
    (done_of g.J.Job.log g.J.Job.plain g.P.Post.shows g.P.Post.seats g.Q.Sums.shows g.Q.Sums.seats w c.loop-host.at c.loop-host.counts
    host.before.value.items c.finish.result.items x.host.ones ran) in
    record {
      len = (let n = ap length e in let f = i.len in let st = c.in-Some-host.ensures.steps in search rules);
      at = c.finish.ensures.still.0 ∙ i.at;
      counts = c.finish.ensures.still.1 ∙ i.counts;
      all = subst (AreDone g.J.Job.log g.J.Job.plain g.P.Post.shows g.P.Post.seats g.Q.Sums.shows g.Q.Sums.seats w c.args.post c.args.sums)
          (sym c.add_all-in-loop-host.ensures.items)
          (done_append g.J.Job.log g.J.Job.plain g.P.Post.shows g.P.Post.seats g.Q.Sums.shows g.Q.Sums.seats w c.args.post c.args.sums c.loop-host.all.items
          c.finish.result.items i.all came);
      started = All-tail (IsStarted w c.args.post c.args.sums) host rest (subst (All (IsStarted w c.args.post c.args.sums)) e i.started);
      room = (let m = i.room in let a = c.add_all-in-loop-host.ensures.room in omega (arith, m, a));
      numbers = λ h. omega (
        arith,
        i.numbers h,
        done_numbers g.J.Job.log g.J.Job.plain g.P.Post.shows g.P.Post.seats g.Q.Sums.shows g.Q.Sums.seats c.loop-host.at c.loop-host.counts
            host.before.value.items c.finish.result.items ran h,
        ap (sum_by (λ r. h r.me)) c.add_all-in-loop-host.ensures.items,
        sum_by-append (λ r. h r.me) c.loop-host.all.items c.finish.result.items,
        ap (started_numbers h) e,
        sum_by-cons (λ c. sum_by (λ r. h r.me) c.before.value.items) host rest,
      );
    }

pub returns-clause-numbers : goal.returns-clause-numbers
returns-clause-numbers g c =
    let i = c.loop-host.invariant in
    let z = c.in-None-host.ensures.steps in
    let e : into_iter_items c.loop-host.host-iterator ≡ [] = nil_from_length (into_iter_items c.loop-host.host-iterator) (sym i.len ∙ z.0) in
    λ h. omega (arith, i.numbers h, ap (started_numbers h) e)
