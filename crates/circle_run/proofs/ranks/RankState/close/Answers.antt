use Rattle.circle_run.proofs.Prelude.{ap, sym, refl, subst, rules, [], ◌∷◌, Shown, stop, noted, Closes, Ends}
use Rattle.circle_run.specs.declared.steps.Did.TheVariants.{Stopped as DidStop}
use Rattle.circle_run.proofs.Winding.{came_looked}
use Rattle.circle_run.proofs.Called.{came_noted}
use Rattle.circle_run.proofs.ranks.RankState.close.Goals as goal

pub returns-in-Some-clause-came : goal.returns-in-Some-clause-came
returns-in-Some-clause-came g c =
    came_looked g.J.Job.log g.J.Job.plain g.P.Post.shows g.P.Post.tells g.P.Post.seats c.look.result c.in-Some.victim c.args.self.now c.args.post.now
    c.look.new.self c.look.new.post c.in-Some.is c.look.ensures.came

pub returns-clause-came : goal.returns-clause-came
returns-clause-came g c =
    let call = c.stop.ensures in
    came_noted g.J.Job.log g.J.Job.plain g.P.Post.shows g.P.Post.tells g.P.Post.seats
    (Ends DidStop c.args.self.now.me c.args.self.now.asked) _ _ _ _ stop
    (record { before = c.requires.ready.knows; none = c.requires.ready.none; knows = search rules; same = refl })
    (record { mine = call.mine; others = call.others; still = call.still; serves = ap (λ (s : Shown). s.serves) call.shown })
    (record { acts = refl; closes = subst (λ (v : _). Closes c.args.self.now.me v (noted stop ∷ [])) (sym c.in_default.is) refl })
    (record {
      silent = refl;
      may = c.requires.halted;
      told = call.told;
      book = refl;
      queue = refl;
      draws = refl;
      batches = ap (λ (s : Shown). s.batches) call.shown;
    })
