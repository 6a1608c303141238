use Rattle.circle_run.proofs.Prelude.{ap, ◌∙◌, arith}
use Rattle.std.proofs.Common.{take}
use Rattle.circle_run.proofs.Asked.{all_asked}
use Rattle.circle_run.proofs.Requests.{taken_room, taken_less, taken_more, taken_none}
use Rattle.circle_run.proofs.ranks.RankState.take_up.Goals as goal

pub loop-to-init : goal.loop-to-init
loop-to-init g c = taken_none g.J.Job.log g.P.Post.shows g.P.Post.tells g.P.Post.seats c.args.self.now c.args.post.now c.args.asks.now
    c.requires.seat c.requires.knows c.requires.none c.told-asks

pub bounds-asks-count : goal.bounds-asks-count
bounds-asks-count g c =
    (let h = taken_room g.J.Job.log g.P.Post.shows g.P.Post.tells g.P.Post.seats c.args.self.now c.args.post.now c.loop-to.self
    c.loop-to.post c.loop-to.asks c.loop-to.count c.in-Some.to c.loop-to.invariant c.in-Some.ensures.found in
    let l = c.loop-to.invariant.long in omega arith)

pub loop-to-smaller : goal.loop-to-smaller
loop-to-smaller g c =
    taken_less g.J.Job.log g.P.Post.shows g.P.Post.tells g.P.Post.seats c.args.self.now c.args.post.now c.loop-to.self c.loop-to.post
    c.loop-to.asks c.loop-to.count c.in-Some.to c.next_request.new.seat c.loop-to.invariant c.in-Some.ensures.found
    c.in-Some.ensures.shown

pub loop-to-preserved : goal.loop-to-preserved
loop-to-preserved g c =
    taken_more g.J.Job.log g.P.Post.shows g.P.Post.tells g.P.Post.seats c.args.self.now c.args.post.now c.loop-to.self c.loop-to.post
    c.next_request.new.seat c.next_request.new.self c.loop-to.asks c.loop-to.count c.in-Some.to
    c.loop-to.invariant c.in-Some.ensures.found c.in-Some.ensures.shown c.in-Some.ensures.told
    (g.met.P.Post.agrees c.loop-to.post c.loop-to.self.seat c.loop-to.invariant.mine) c.next_request.ensures.mine
    c.next_request.ensures.others c.next_request.ensures.still
    (let h = taken_room g.J.Job.log g.P.Post.shows g.P.Post.tells g.P.Post.seats c.args.self.now c.args.post.now c.loop-to.self
    c.loop-to.post c.loop-to.asks c.loop-to.count c.in-Some.to c.loop-to.invariant c.in-Some.ensures.found in
    let l = c.loop-to.invariant.long in omega arith)

pub returns-clause-askers : goal.returns-clause-askers
returns-clause-askers g c =
    all_asked c.args.self.now.me (g.P.Post.shows c.loop-to.self.seat) (g.P.Post.tells c.loop-to.post)
    (g.P.Post.tells c.next_request.new.self) (take c.loop-to.count c.loop-to.asks)
    (let i = c.loop-to.invariant in
    i.knows.number ∙ ap (λ (x : _). x.me) i.rest)
    (g.met.P.Post.agrees c.loop-to.post c.loop-to.self.seat c.loop-to.invariant.mine) c.in_default.ensures.told
    c.loop-to.invariant.order
