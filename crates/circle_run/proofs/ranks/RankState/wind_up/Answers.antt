use Rattle.circle_run.proofs.Prelude.{ap, sym, ◌∙◌, subst, Came, WoundUp, Did}
use Rattle.circle_run.proofs.Winding.{halted_now, knows_now, came_closed, halted_served, refuses_all, gives_none}
use Rattle.circle_run.proofs.Stepped.{handled_before}
use Rattle.circle_run.proofs.ranks.RankState.wind_up.Goals as goal

pub close-did-requires-clause-halted : goal.close-did-requires-clause-halted
close-did-requires-clause-halted g c = λ found.
    halted_served g.J.Job.log g.J.Job.plain g.P.Post.shows g.P.Post.tells g.P.Post.seats _ c.serve-some.result c.tell_halt.new.self c.tell_halt.new.post
    c.serve-some.new.self c.serve-some.new.post (c.serve-some.ensures.came.went found)
    (halted_now c.args.first (g.P.Post.tells c.args.post.now) (g.P.Post.tells c.tell_halt.new.post) c.tell_halt.ensures.told
    (λ e. ap g.P.Post.tells (c.tell_halt.ensures.still e)) (λ e. (c.requires.halted e).0))

pub returns-clause-came : goal.returns-clause-came
returns-clause-came g c =
    let r = c.args.self.now in
    let some = c.serve-some.result in
    let did = c.close-did.result in
    let told = c.tell_halt.ensures in
    let served = c.serve-some.ensures in
    let last = c.close-did.new.self in
    let board = c.close-did.new.post in
    subst (λ (d : Did). Came g.J.Job.log g.J.Job.plain g.P.Post.shows g.P.Post.tells g.P.Post.seats (WoundUp d r.options r.me c.args.first r.asked)
    r c.args.post.now last board) (sym c.in_all.ensures)
    (came_closed g.J.Job.log g.J.Job.plain g.P.Post.shows g.P.Post.tells g.P.Post.seats c.is_none-gives.result some c.args.first did r c.args.post.now
    c.tell_halt.new.self c.tell_halt.new.post c.serve-some.new.self c.serve-some.new.post last board
    (λ ne. refuses_all c.tell_halt.new.self.options.stop_after c.is_none-gives.result c.is_none-gives.ensures
    (λ e. ne (sym (ap (λ (x : _). x.options.stop_after) told.same) ∙ e)))
    (λ e. c.close-did.ensures.other (handled_before some did e)) (served.asked ∙ ap (λ (x : _). x.asked) told.same)
    told.came served.came c.close-did.ensures.came)

pub serve-some-requires-clause-refuses : goal.serve-some-requires-clause-refuses
serve-some-requires-clause-refuses g c = λ no. (
  gives_none c.tell_halt.new.self.options.stop_after c.is_none-gives.result c.is_none-gives.ensures no,
  halted_now c.args.first (g.P.Post.tells c.args.post.now) (g.P.Post.tells c.tell_halt.new.post) c.tell_halt.ensures.told
      (λ e. ap g.P.Post.tells (c.tell_halt.ensures.still e)) (λ e. (c.requires.halted e).0),
)

pub returns-clause-halts : goal.returns-clause-halts
returns-clause-halts g c = λ e.
    c.close-did.ensures.halted ∙ c.serve-some.ensures.halted ∙ ap (λ (s : _). (g.P.Post.shows s).halted) (c.tell_halt.ensures.seat e)

pub returns-clause-knows_halt : goal.returns-clause-knows_halt
returns-clause-knows_halt g c =
    knows_now c.args.first (g.P.Post.shows c.args.self.now.seat) (g.P.Post.shows c.tell_halt.new.self.seat) (g.P.Post.shows c.close-did.new.self.seat)
    c.tell_halt.ensures.halted (λ e. ap g.P.Post.shows (c.tell_halt.ensures.seat e)) (λ e. (c.requires.halted e).1)
    (c.close-did.ensures.halted ∙ c.serve-some.ensures.halted) (c.close-did.ensures.knows_halt ∙ c.serve-some.ensures.knows_halt)
