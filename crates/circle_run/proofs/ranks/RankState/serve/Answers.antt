use Rattle.circle_run.proofs.Prelude.{◌≢◌, ℕ, ap, sym, ◌∙◌, subst, arith, None, ltb-true, ltb-false, amounts, IsHalted, Options, Fits}
use Rattle.circle_run.proofs.Asked.{nobody, none_left}
use Rattle.circle_run.proofs.Services.{serving_none, serving_more, came_served}
use Rattle.circle_run.proofs.ranks.RankState.serve.Goals as goal

pub loop-k-init : goal.loop-k-init
loop-k-init g c =
    let t = c.take_up-count.ensures.taken in
    serving_none g.J.Job.log g.P.Post.shows g.P.Post.tells g.P.Post.seats c.take_up-count.new.self c.take_up-count.new.post
    c.take_up-count.new.asks c.of-lot.result c.take_up-count.result t.knows t.mine c.take_up-count.ensures.awaits t.asked
    (subst (Fits c.of-lot.result c.take_up-count.result) c.len-queued.ensures c.of-lot.ensures.fits)

pub loop-k-preserved : goal.loop-k-preserved
loop-k-preserved g c =
    let t = c.take_up-count.ensures.taken in
    let n = c.next-share.ensures in
    serving_more g.J.Job.log g.P.Post.shows g.P.Post.tells g.P.Post.seats c.take_up-count.new.self c.take_up-count.new.post c.loop-k.self
    c.loop-k.post c.answer_one.new.self c.answer_one.new.post c.take_up-count.new.asks
    c.of-lot.result c.loop-k.lot c.next-share.new.self c.loop-k.k c.take_up-count.result c.next-share.result c.next-share.new.draws
    c.loop-k-test.true (let l = t.long in let f = c.take_up-count.ensures.few in
    omega arith) n.first n.drawn n.less n.fits c.answer_one.ensures c.loop-k.invariant

pub returns-clause-came : goal.returns-clause-came
returns-clause-came g c =
    let t = c.take_up-count.ensures.taken in
    came_served g.J.Job.log g.J.Job.plain g.P.Post.shows g.P.Post.tells g.P.Post.seats c.args.gives _ c.args.self.now c.args.post.now
    c.take_up-count.new.self c.take_up-count.new.post c.loop-k.self c.loop-k.post c.take_up-count.new.asks
    c.of-lot.result c.loop-k.lot c.loop-k.k c.take_up-count.result
    (λ e. (let h = ltb-false 0 c.take_up-count.result e in omega (arith, h))) (λ e. ltb-true 0 c.take_up-count.result e)
    (let a = c.loop-k-test.false in let b = c.loop-k.auto.k-end in omega arith) (let l = t.long in let f = c.take_up-count.ensures.few in omega arith)
    (record {
      by_split = λ yes from. c.of-lot.ensures.amounts yes from
          ∙ ap (λ (q : ℕ). amounts c.take_up-count.new.self.options.split q c.take_up-count.result from) c.len-queued.ensures;
      nothing = c.of-lot.ensures.nothing;
      refuses = λ no. (
        subst (λ (o : Options). o.stop_after ≢ None) (sym (ap (λ (x : _). x.options) t.rest)) (c.requires.refuses no).0,
        subst IsHalted (sym t.told) (c.requires.refuses no).1,
      );
    })
    c.take_up-count.ensures.askers t c.loop-k.invariant

pub returns-clause-unasked : goal.returns-clause-unasked
returns-clause-unasked g c =
    let t = c.take_up-count.ensures.taken in
    let on = c.loop-k.invariant.on in
    nobody c.args.self.now.me (g.P.Post.shows c.loop-k.self.seat) (g.P.Post.tells c.loop-k.post) (on.knows.number ∙ on.me ∙ ap (λ (x : _). x.me) t.rest)
    (g.met.P.Post.agrees c.loop-k.post c.loop-k.self.seat on.mine) on.awaits
    (none_left (g.P.Post.shows c.loop-k.self.seat) c.take_up-count.new.asks c.loop-k.k c.take_up-count.result c.loop-k.invariant.left
    c.loop-k-test.false)
