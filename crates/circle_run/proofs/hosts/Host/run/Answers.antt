use Rattle.circle_run.proofs.Prelude.{◌<◌, length, refl, arith, KeptByEach}
use Rattle.circle_run.proofs.Rounds.{round_first, round_more, round_at, round_last, same_all, lost_before, lost_here}
use Rattle.circle_run.proofs.Playing.{going_first, going_more, going_round, each_first, each_more}
use Rattle.circle_run.proofs.Lone.{alone_first, alone_step}
use Rattle.circle_run.proofs.Stepped.{still_then}
use Rattle.circle_run.proofs.hosts.Host.run.Goals as goal

pub loop-init : goal.loop-init
loop-init g c = rw (c.self.view_is) (record {
  next = tt;
  finite = tt;
  round = round_first g.J.Job.log g.J.Job.plain g.P.Post.shows g.P.Post.tells g.P.Post.seats g.Q.Sums.shows g.Q.Sums.seats c.args.self
      c.unset-done.result c.args.post.now c.args.sums.now c.unset-done.ensures.long c.unset-done.ensures.unset c.requires.order c.requires.ready;
  ran = λ none o t all told.
      going_first g.J.Job.log g.J.Job.plain g.P.Post.shows g.P.Post.tells g.P.Post.seats
      (KeptByEach o c.args.self c.args.self) o t c.args.self c.args.post.now told
      (each_first g.J.Job.log g.J.Job.plain g.P.Post.shows g.P.Post.tells g.P.Post.seats o c.args.self);
  still = λ e. refl;
  sums_still = λ e. refl;
  alone = λ e. (e, alone_first g.J.Job.log g.J.Job.plain g.P.Post.shows g.P.Post.tells g.P.Post.seats c.args.self);
})

pub loop-k-init : goal.loop-k-init
loop-k-init g c =
    let i = c.loop.invariant in
    record {
      round = i.round;
      end = (let n = i.round.same.count in let e = c.len-k-end.ensures in omega arith);
      ran = i.ran;
      still = i.still;
      sums_still = i.sums_still;
      alone = i.alone;
    }

pub loop-k-preserved : goal.loop-k-preserved
loop-k-preserved g c =
    let i = c.loop-k.invariant in
    let took = c.step.ensures.took in
    let was = c.index_mut.ensures.value in
    let inside : c.loop-k.k < length c.loop-k.ranks.items = (let n = i.round.same.count in let e = i.end in let t = c.loop-k-test.true in omega arith) in
    record {
      round = round_more g.J.Job.log g.J.Job.plain g.P.Post.shows g.P.Post.tells g.P.Post.seats g.Q.Sums.shows g.Q.Sums.seats c.args.self
          c.loop-k.ranks.items c.loop-k.done c.loop-k.post c.step.new.post c.loop-k.sums c.step.new.sums c.loop-k.k c.index_mut.result.now
          c.step.new.self c.step.new.self c.step.new.done c.requires.order inside was took refl c.step.ensures.others
          c.step.ensures.sums_others c.step.ensures.placed i.round;
      end = i.end;
      ran = λ none o t all told.
          let before = lost_before c.loop-k.ranks.items c.loop-k.k c.index_mut.result.now c.step.new.self inside was took.lost none in
          let w = took.went (lost_here c.loop-k.ranks.items c.loop-k.k c.step.new.self inside none) in
          let now = same_all g.J.Job.plain o c.args.self c.loop-k.ranks.items i.round.same all in
          going_more g.J.Job.log g.J.Job.plain g.P.Post.shows g.P.Post.tells g.P.Post.seats
          (KeptByEach o c.args.self c.loop-k.ranks.items) _ o t c.args.self c.loop-k.ranks.items c.loop-k.post
          c.step.new.post
          c.loop-k.k c.index_mut.result.now c.step.new.self c.step.new.self now i.round.same.count inside was w (λ i. c.step.new.self)
          (each_more g.J.Job.log g.J.Job.plain g.P.Post.shows g.P.Post.tells g.P.Post.seats o c.args.self c.loop-k.ranks.items
          c.loop-k.post c.step.new.post c.loop-k.k c.index_mut.result.now c.step.new.self now i.round.same.count inside was w)
          (i.ran before o t all told);
      still = still_then g.P.Post.tells c.args.post.now c.loop-k.post c.step.new.post i.still took.still;
      sums_still = still_then g.Q.Sums.tells c.args.sums.now c.loop-k.sums c.step.new.sums i.sums_still c.step.ensures.sums_still;
      alone = λ e. alone_step g.J.Job.log g.J.Job.plain g.P.Post.shows g.P.Post.tells g.P.Post.seats c.args.self c.loop-k.ranks.items
          c.loop-k.post c.step.new.post c.loop-k.k c.index_mut.result.now c.step.new.self inside was i.round.same took (i.alone e);
    }

pub loop-preserved : goal.loop-preserved
loop-preserved g c =
    let i = c.loop-k.invariant in
    record {
      next = tt;
      finite = tt;
      round = i.round;
      ran = λ none o t all told.
          going_round g.J.Job.log g.J.Job.plain g.P.Post.shows g.P.Post.tells g.P.Post.seats _ o t c.args.self
          c.loop-k.ranks.items c.loop-k.post c.loop-k.k
          (let n = all.count in let e = i.end in let f = c.loop-k-test.false in let u = c.loop-k.auto.k-end in omega arith) (i.ran none o t all told);
      still = i.still;
      sums_still = i.sums_still;
      alone = i.alone;
    }

pub index_mut-requires : goal.index_mut-requires
index_mut-requires g c = (let n = c.loop-k.invariant.round.same.count in let e = c.loop-k.invariant.end in omega arith)

pub bounds-done-k : goal.bounds-done-k
bounds-done-k g c = (let e = c.loop-k.invariant.end in let f = c.loop-k.invariant.round.few in omega arith)

pub step-requires : goal.step-requires
step-requires g c =
    let i = c.loop-k.invariant in
    round_at g.J.Job.log g.J.Job.plain g.P.Post.shows g.P.Post.tells g.P.Post.seats g.Q.Sums.shows g.Q.Sums.seats c.args.self
    c.loop-k.ranks.items c.loop-k.done c.loop-k.post c.loop-k.sums c.loop-k.k c.index_mut.result.now
    (let n = i.round.same.count in let e = i.end in let t = c.loop-k-test.true in omega arith) c.index_mut.ensures.value i.round

pub all_set-requires : goal.all_set-requires
all_set-requires g c = (let i = c.loop-k.invariant.round in let n = i.same.count in let w = i.wide in let f = i.few in omega arith)

pub returns-then-all_set-clause-ended : goal.returns-then-all_set-clause-ended
returns-then-all_set-clause-ended g c =
    let n = c.loop-k.invariant.round.same.count in
    round_last g.J.Job.log g.J.Job.plain g.P.Post.shows g.P.Post.tells g.P.Post.seats g.Q.Sums.shows g.Q.Sums.seats c.args.self
    c.loop-k.ranks.items c.loop-k.done c.loop-k.post c.loop-k.sums c.len.result (omega arith) (c.if-all_set.ensures refl) c.loop-k.invariant.round

pub returns-then-all_set-clause-same : goal.returns-then-all_set-clause-same
returns-then-all_set-clause-same g c = c.loop-k.invariant.round.same

pub returns-then-all_set-clause-ran : goal.returns-then-all_set-clause-ran
returns-then-all_set-clause-ran g c = λ o t all told none. (c.loop-k.invariant.ran none o t all told).ran

pub returns-then-all_set-clause-alone : goal.returns-then-all_set-clause-alone
returns-then-all_set-clause-alone g c = c.loop-k.invariant.alone

pub returns-then-all_set-clause-still : goal.returns-then-all_set-clause-still
returns-then-all_set-clause-still g c = c.loop-k.invariant.still

pub returns-then-all_set-clause-sums_still : goal.returns-then-all_set-clause-sums_still
returns-then-all_set-clause-sums_still g c = c.loop-k.invariant.sums_still
