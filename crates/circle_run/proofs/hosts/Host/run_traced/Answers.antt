use Rattle.circle_run.proofs.Prelude.{◌<◌, length, refl, ap, ◌∙◌, arith, KeptInOrder}
use Rattle.circle_run.proofs.Rounds.{round_first, round_more, round_at, round_last, same_all, wrote_more}
use Rattle.circle_run.proofs.Playing.{going_first, going_more, going_round, order_first, order_more}
use Rattle.circle_run.proofs.hosts.Host.run_traced.Goals as goal

pub loop-init : goal.loop-init
loop-init g c = rw (c.self.view_is) (record {
  next = tt;
  finite = tt;
  round = round_first g.J.Job.log g.J.Job.plain g.P.Post.shows g.P.Post.tells g.P.Post.seats g.Q.Sums.shows g.Q.Sums.seats c.args.self
      c.unset-done.result c.args.post.now c.args.sums.now c.unset-done.ensures.long c.unset-done.ensures.unset c.requires.order c.requires.ready;
  wrote = c.requires.unwritten;
  ran = λ o t all told. going_first g.J.Job.log g.J.Job.plain g.P.Post.shows g.P.Post.tells g.P.Post.seats
      (KeptInOrder o c.args.events.now.items) o t c.args.self c.args.post.now told
      (order_first o c.args.events.now.items c.requires.empty);
})

pub loop-k-init : goal.loop-k-init
loop-k-init g c = record {
  round = c.loop.invariant.round;
  end = (let n = c.loop.invariant.round.same.count in let e = c.len-k-end.ensures in omega arith);
  wrote = c.loop.invariant.wrote;
  ran = c.loop.invariant.ran;
}

pub loop-k-preserved : goal.loop-k-preserved
loop-k-preserved g c =
    let i = c.loop-k.invariant in
    let moved = c.hand_over.ensures.rest in
    let found = c.in_ok-hand_over.ensures.found in
    let took = c.step.ensures.took in
    let was = c.index_mut-rank.ensures.value in
    let inside : c.loop-k.k < length c.loop-k.ranks.items = (let n = i.round.same.count in let e = i.end in let t = c.loop-k-test.true in omega arith) in
    record {
      round = round_more g.J.Job.log g.J.Job.plain g.P.Post.shows g.P.Post.tells g.P.Post.seats g.Q.Sums.shows g.Q.Sums.seats c.args.self
          c.loop-k.ranks.items c.loop-k.done c.loop-k.post c.step.new.post c.loop-k.sums c.step.new.sums c.loop-k.k c.index_mut-rank.result.now
          c.step.new.self c.hand_over.new.self c.step.new.done c.requires.order inside was took moved c.step.ensures.others
          c.step.ensures.sums_others c.step.ensures.placed i.round;
      end = i.end;
      wrote = wrote_more c.loop-k.ranks.items c.loop-k.k c.step.new.self c.hand_over.new.self moved found c.in_ok-hand_over.ensures.emptied i.wrote;
      ran = λ o t all told.
          let w = took.went found in
          let now = same_all g.J.Job.plain o c.args.self c.loop-k.ranks.items i.round.same all in
          let none = ap (λ (r : _). r.book.events.items) was ∙ (i.wrote c.loop-k.k c.index_mut-rank.result.now inside).1 in
          going_more g.J.Job.log g.J.Job.plain g.P.Post.shows g.P.Post.tells g.P.Post.seats (KeptInOrder o c.loop-k.events.items)
          (KeptInOrder o c.hand_over.new.events.items) o t c.args.self c.loop-k.ranks.items c.loop-k.post c.step.new.post
          c.loop-k.k c.index_mut-rank.result.now c.step.new.self c.hand_over.new.self now i.round.same.count inside was w moved
          (order_more g.J.Job.log g.J.Job.plain g.P.Post.shows g.P.Post.tells g.P.Post.seats o c.loop-k.ranks.items c.loop-k.post
          c.step.new.post c.loop-k.k c.index_mut-rank.result.now c.step.new.self c.loop-k.events.items c.hand_over.new.events.items
          now inside was none w c.in_ok-hand_over.ensures.moved)
          (i.ran o t all told);
    }

pub loop-preserved : goal.loop-preserved
loop-preserved g c =
    let i = c.loop-k.invariant in
    record {
      next = tt;
      finite = tt;
      round = i.round;
      wrote = i.wrote;
      ran = λ o t all told. going_round g.J.Job.log g.J.Job.plain g.P.Post.shows g.P.Post.tells g.P.Post.seats _ o t c.args.self
          c.loop-k.ranks.items c.loop-k.post c.loop-k.k
          (let n = all.count in let e = i.end in let f = c.loop-k-test.false in let u = c.loop-k.auto.k-end in omega arith) (i.ran o t all told);
    }

pub index_mut-rank-requires : goal.index_mut-rank-requires
index_mut-rank-requires g c = (let n = c.loop-k.invariant.round.same.count in let e = c.loop-k.invariant.end in omega arith)

pub bounds-done-k : goal.bounds-done-k
bounds-done-k g c = (let e = c.loop-k.invariant.end in let f = c.loop-k.invariant.round.few in omega arith)

pub step-requires : goal.step-requires
step-requires g c =
    let i = c.loop-k.invariant in
    round_at g.J.Job.log g.J.Job.plain g.P.Post.shows g.P.Post.tells g.P.Post.seats g.Q.Sums.shows g.Q.Sums.seats c.args.self
    c.loop-k.ranks.items c.loop-k.done c.loop-k.post c.loop-k.sums c.loop-k.k c.index_mut-rank.result.now
    (let n = i.round.same.count in let e = i.end in let t = c.loop-k-test.true in omega arith) c.index_mut-rank.ensures.value i.round

pub all_set-requires : goal.all_set-requires
all_set-requires g c = (let i = c.loop-k.invariant.round in let n = i.same.count in let w = i.wide in let f = i.few in omega arith)

pub returns-then-all_set-clause-ended : goal.returns-then-all_set-clause-ended
returns-then-all_set-clause-ended g c =
    let n = c.loop-k.invariant.round.same.count in
    round_last g.J.Job.log g.J.Job.plain g.P.Post.shows g.P.Post.tells g.P.Post.seats g.Q.Sums.shows g.Q.Sums.seats c.args.self
    c.loop-k.ranks.items c.loop-k.done c.loop-k.post c.loop-k.sums c.len.result (omega arith) (c.if-all_set.ensures refl) c.loop-k.invariant.round

pub returns-then-all_set-clause-unwritten : goal.returns-then-all_set-clause-unwritten
returns-then-all_set-clause-unwritten g c = c.loop-k.invariant.wrote

pub returns-then-all_set-clause-same : goal.returns-then-all_set-clause-same
returns-then-all_set-clause-same g c = c.loop-k.invariant.round.same

pub returns-then-all_set-clause-ran : goal.returns-then-all_set-clause-ran
returns-then-all_set-clause-ran g c = λ o t all told. (c.loop-k.invariant.ran o t all told).ran
