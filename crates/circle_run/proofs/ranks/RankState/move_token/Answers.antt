use Rattle.circle_run.proofs.Prelude.{ap, sym, ◌∙◌, refl, arith, rules, Colour, Shown, mixed, pass, restart, conclude}
use Rattle.circle_run.proofs.Stepped.{tells_as, mixed_is}
use Rattle.circle_run.proofs.Hearing.{moved_above, moved_black, moved_white}
use Rattle.circle_run.proofs.Moving.{came_moved}
use Rattle.circle_run.proofs.ranks.RankState.move_token.Goals as goal

pub returns-then-rank-gt0-clause-came : goal.returns-then-rank-gt0-clause-came
returns-then-rank-gt0-clause-came g c =
    let call = c.pass.ensures in
    let seat = g.P.Post.shows c.args.self.now.seat in
    let colour = c.darker-colour.result in
    came_moved g.J.Job.log g.J.Job.plain g.P.Post.shows g.P.Post.tells g.P.Post.seats c.args.held colour (pass colour) _ _ _ _
    (record { before = c.requires.ready.knows; none = c.requires.ready.none; knows = search rules; same = refl })
    (record { mine = call.mine; others = call.others; still = call.still; serves = ap (λ (s : Shown). s.serves) call.shown })
    (ap (λ (s : Shown). s.batches) call.shown)
    (tells_as seat.number seat.number (pass (mixed seat)) (pass colour) (g.P.Post.tells c.args.post.now) (g.P.Post.tells c.pass.new.self) refl
    (ap (λ (x : Colour). pass x) (mixed_is seat c.args.self.now.colour c.args.held c.requires.ready.knows.colour c.requires.here
    ∙ sym c.darker-colour.ensures)) call.told)
    c.darker-colour.ensures (moved_above c.args.self.now.me colour (omega (arith, c.if-rank-gt0.true)))
    c.note.ensures c.requires.empty c.requires.empty tt refl

pub returns-in-Black-clause-came : goal.returns-in-Black-clause-came
returns-in-Black-clause-came g c =
    let call = c.restart.ensures in
    came_moved g.J.Job.log g.J.Job.plain g.P.Post.shows g.P.Post.tells g.P.Post.seats c.args.held c.darker-colour.result restart _ _ _ _
    (record { before = c.requires.ready.knows; none = c.requires.ready.none; knows = search rules; same = refl })
    (record { mine = call.mine; others = call.others; still = call.still; serves = ap (λ (s : Shown). s.serves) call.shown })
    (ap (λ (s : Shown). s.batches) call.shown) call.told c.darker-colour.ensures
    (moved_black c.args.self.now.me c.darker-colour.result (omega (arith, c.if-rank-gt0.false)) c.in-Black.is)
    c.note-in-Black.ensures c.requires.empty c.requires.empty tt refl

pub returns-in-White-clause-came : goal.returns-in-White-clause-came
returns-in-White-clause-came g c =
    let call = c.conclude.ensures in
    came_moved g.J.Job.log g.J.Job.plain g.P.Post.shows g.P.Post.tells g.P.Post.seats c.args.held c.darker-colour.result conclude _ _ _ _
    (record { before = c.requires.ready.knows; none = c.requires.ready.none; knows = search rules; same = refl })
    (record { mine = call.mine; others = call.others; still = call.still; serves = ap (λ (s : Shown). s.serves) call.shown })
    (ap (λ (s : Shown). s.batches) call.shown) call.told c.darker-colour.ensures
    (moved_white c.args.self.now.me c.darker-colour.result (omega (arith, c.if-rank-gt0.false)) c.in-White.is)
    c.note-in-White.ensures c.requires.empty c.requires.empty tt refl
