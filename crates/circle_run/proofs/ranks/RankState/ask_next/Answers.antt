use Rattle.circle_run.proofs.Prelude.{ap, refl, inl, rules, did, Shown, ask, to_ask, Follows}
use Rattle.circle_run.specs.declared.steps.Did.TheVariants.{Acted as DidAct}
use Rattle.circle_run.proofs.Called.{came_idle}
use Rattle.circle_run.proofs.ranks.RankState.ask_next.Goals as goal

pub returns-clause-came : goal.returns-clause-came
returns-clause-came g c =
    let call = c.ask.ensures in
    let victim = c.victim-victim.result in
    came_idle g.J.Job.log g.J.Job.plain g.P.Post.shows g.P.Post.tells g.P.Post.seats (Follows DidAct c.args.self.now.me to_ask) _ _ _ _ (ask victim)
    (record { before = c.requires.ready.knows; none = c.requires.ready.none; knows = search rules; same = refl })
    (record { mine = call.mine; others = call.others; still = call.still; serves = ap (λ (s : Shown). s.serves) call.shown })
    (record { acts = (did (ask victim), inl (ask victim, refl), refl); chosen = (victim, refl) }) c.note.ensures (record {
      idle = tt;
      empty = c.requires.empty;
      left = c.requires.empty;
      drawn = (c.victim-victim.ensures.chosen, c.victim-victim.ensures.drawn);
      batches = ap (λ (s : Shown). s.batches) call.shown;
      told = call.told;
    })
