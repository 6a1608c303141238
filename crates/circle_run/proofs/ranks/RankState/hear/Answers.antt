use Rattle.circle_run.proofs.Prelude.{ap, sym, refl, subst, rules, [], ◌∷◌, Shown, see_over, Ring, did, Heard}
use Rattle.circle_run.proofs.Called.{came_idle}
use Rattle.circle_run.proofs.Hearing.{halt_read, knows_read}
use Rattle.circle_run.proofs.ranks.RankState.hear.Goals as goal

pub returns-in-Over-clause-came : goal.returns-in-Over-clause-came
returns-in-Over-clause-came g c =
    let call = c.ring-ring.ensures in
    let shown = c.in-Over.ensures.shown in
    let empty = c.requires.knows.idle (c.in-Over.ensures.over refl) in
    came_idle g.J.Job.log g.J.Job.plain g.P.Post.shows g.P.Post.tells g.P.Post.seats (Heard c.ring-ring.result) _ _ _ _ see_over
    (record { before = c.requires.knows; none = c.requires.none; knows = search rules; same = refl })
    (record { mine = call.mine; others = call.others; still = call.still; serves = ap (λ (s : Shown). s.serves) shown })
    (subst (λ (x : Ring). Heard x (did see_over ∷ [])) (sym c.in-Over.is) refl) c.note.ensures (record {
      idle = tt;
      empty = empty;
      left = empty;
      drawn = refl;
      batches = ap (λ (s : Shown). s.batches) shown;
      told = c.in-Over.ensures.told;
    })

pub returns-in_default-clause-told : goal.returns-in_default-clause-told
returns-in_default-clause-told g c = λ is. halt_read c.ring-ring.result (g.P.Post.shows c.args.self.now.seat) (g.P.Post.tells c.args.post.now)
    (g.P.Post.tells c.ring-ring.new.self) is c.ring-ring.ensures.told

pub returns-in_default-clause-knows_halt : goal.returns-in_default-clause-knows_halt
returns-in_default-clause-knows_halt g c = λ is. knows_read c.ring-ring.result (g.P.Post.shows c.args.self.now.seat) (g.P.Post.shows c.ring-ring.new.seat) is
    c.ring-ring.ensures.shown
