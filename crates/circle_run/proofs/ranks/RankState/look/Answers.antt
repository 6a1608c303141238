use Rattle.circle_run.proofs.Prelude.{◌≡◌, ℕ, ap, ◌∙◌, refl, inl, inr, ⊎_elim, subst, arith, rules, List, [], ◌∷◌, ◌++◌, length, Shown, victim_of, with_taken}
use Rattle.circle_run.proofs.Prelude.{take, take_none, withdraw, did, noted, Take, Writes, to_look, Follows}
use Rattle.circle_run.specs.declared.steps.Did.TheVariants.{Acted as DidAct}
use Rattle.circle_run.proofs.Called.{came_called, came_did}
use Rattle.circle_run.proofs.Stepped.{tells_as, late_as, went_did, went_withdrew, victim_is, waiting_told}
use Rattle.circle_run.proofs.ranks.RankState.look.Goals as goal

pub returns-in-Pending-clause-waits : goal.returns-in-Pending-clause-waits
returns-in-Pending-clause-waits g c =
    λ e. waiting_told (g.P.Post.shows c.args.self.now.seat).number c.args.self.now.me (victim_of (g.P.Post.shows c.args.self.now.seat))
    (g.P.Post.tells c.args.post.now) (g.P.Post.tells c.answer.new.self) c.requires.ready.knows.number c.in-Pending.ensures.told

pub returns-in-Nothing-clause-came : goal.returns-in-Nothing-clause-came
returns-in-Nothing-clause-came g c =
    let call = c.answer.ensures in
    let shown = c.in-Nothing.ensures.shown in
    let shows = g.P.Post.shows in
    let r = c.args.self.now in
    let asks : victim_of (shows r.seat) ≡ c.args.victim = victim_is (shows r.seat) c.args.victim (c.requires.ready.knows.asked ∙ c.requires.open) in
    came_called g.J.Job.log g.J.Job.plain g.P.Post.shows g.P.Post.tells g.P.Post.seats
    (Follows DidAct c.args.self.now.me (to_look c.args.victim)) _ _ _ _
    (record { before = c.requires.ready.knows; none = c.requires.ready.none; knows = search rules; same = refl })
    (record { mine = call.mine; others = call.others; still = call.still; serves = ap (λ (s : Shown). s.serves) shown })
    c.note.ensures.sums c.note.ensures.lost (λ found. ⊎_elim
    (λ refused. went_did g.J.Job.log g.J.Job.plain shows g.P.Post.tells g.P.Post.seats
    (Follows DidAct r.me (to_look c.args.victim)) _ _ _ _ (take_none c.args.victim)
    (record { acts = (did (take_none c.args.victim), inl (take_none c.args.victim, refl), refl); chosen = inr (inl refl) }) c.note.ensures (record {
      queue = refl;
      names = tt;
      few = (let q = c.requires.empty in let n : length r.queue ≡ 0 = ap length q in omega arith);
      drawn = refl;
      log = refl;
      batches = ap (λ (s : Shown). s.batches) shown;
      told = tells_as (shows r.seat).number r.me (take_none (victim_of (shows r.seat))) (take_none c.args.victim) (g.P.Post.tells c.args.post.now)
          (g.P.Post.tells c.answer.new.self) c.requires.ready.knows.number (ap (λ (v : ℕ). take_none v) asks) refused;
    }) found)
    (λ left. went_withdrew g.J.Job.log g.J.Job.plain shows g.P.Post.tells g.P.Post.seats
    (Follows DidAct r.me (to_look c.args.victim)) _ _ _ _ c.args.victim
    (record { acts = (noted (withdraw c.args.victim), inr (c.args.victim, refl), refl); chosen = inr (inr (inl refl)) }) c.note.ensures
    (c.requires.ready.knows.asks c.args.victim c.requires.open)
    (late_as (shows r.seat).number r.me (withdraw (victim_of (shows r.seat))) (withdraw c.args.victim) (g.P.Post.tells c.args.post.now)
    (g.P.Post.tells c.answer.new.self) c.requires.ready.knows.number (ap (λ (v : ℕ). withdraw v) asks) left)
    refl refl refl (ap (λ (s : Shown). s.batches) shown) found) c.in-Nothing.ensures.told)

pub returns-in-Ok-clause-came : goal.returns-in-Ok-clause-came
returns-in-Ok-clause-came g c =
    let call = c.answer.ensures in
    let shown = c.in-Work.ensures.shown in
    let asks = victim_is (g.P.Post.shows c.args.self.now.seat) c.args.victim (c.requires.ready.knows.asked ∙ c.requires.open) in
    came_did g.J.Job.log g.J.Job.plain g.P.Post.shows g.P.Post.tells g.P.Post.seats
    (Follows DidAct c.args.self.now.me (to_look c.args.victim)) _ _ _ _ (take c.args.victim c.in-Work.batch)
    (record { before = c.requires.ready.knows; none = c.requires.ready.none; knows = search rules; same = refl })
    (record { mine = call.mine; others = call.others; still = call.still; serves = ap (λ (s : Shown). s.serves) shown })
    (record {
      acts = (did (take c.args.victim c.in-Work.batch), inl (take c.args.victim c.in-Work.batch, refl), refl);
      chosen = inr (inr (inr (c.in-Work.batch, refl)));
    })
    (subst (λ (k : ℕ). Writes c.args.self.now.options.trace
    (Take c.args.self.now.me c.args.victim k ∷ []) c.args.self.now.book c.note-in-Work.new.self) c.len-count.ensures
    c.note-in-Work.ensures) (record {
      queue = c.in-Ok.ensures.added;
      names = c.requires.ready.knows.asks c.args.victim c.requires.open;
      few = (let l : length c.push_all.new.self ≡ length c.in-Work.batch = ap length c.in-Ok.ensures.added
          ∙ ap (λ (q : List (List ℕ)). length (q ++ c.in-Work.batch)) c.requires.empty in omega (arith, l, c.len-count.ensures));
      drawn = refl;
      log = refl;
      batches = ap (λ (s : Shown). s.batches) shown
          ∙ ap (λ (v : ℕ). with_taken (g.P.Post.shows c.args.self.now.seat).batches v c.in-Work.batch) asks;
      told = tells_as (g.P.Post.shows c.args.self.now.seat).number c.args.self.now.me
          (take (victim_of (g.P.Post.shows c.args.self.now.seat)) c.in-Work.batch) (take c.args.victim c.in-Work.batch)
          (g.P.Post.tells c.args.post.now) (g.P.Post.tells c.answer.new.self) c.requires.ready.knows.number
          (ap (λ (v : ℕ). take v c.in-Work.batch) asks) c.in-Work.ensures.told;
    })
