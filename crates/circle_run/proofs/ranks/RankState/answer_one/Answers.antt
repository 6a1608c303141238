use Rattle.circle_run.proofs.Prelude.{◌≡◌, ℕ, ap, sym, ◌∙◌, refl, subst, ⊎_elim, arith, [], ◌∷◌, length, Give, Shown, Deed, give, refuse, event_of, answer_of}
use Rattle.circle_run.proofs.Prelude.{batches_after, Writes, Book}
use Rattle.circle_run.proofs.Stepped.{tells_as}
use Rattle.circle_run.proofs.Asked.{awaits_given, awaits_refused}
use Rattle.circle_run.proofs.Answering.{answer_gives, writes_after, knows_gave, knows_refused, serves_on}
use Rattle.circle_run.proofs.ranks.RankState.answer_one.Goals as goal

pub returns-in-Some : goal.returns-in-Some
returns-in-Some g c =
    let shown = c.give.ensures.shown in
    let amount = c.in-Some.ensures.amount in
    let had = c.in-Some.ensures.had in
    let is : answer_of (c.args.to, c.in-Some.batch) ≡ give c.args.to c.in-Some.batch =
    answer_gives c.args.to c.in-Some.batch (let a = amount.0 in let b = amount.1 in omega arith) in
    record {
      on = serves_on g.J.Job.log g.P.Post.shows g.P.Post.tells g.P.Post.seats _ _ _ _ refl c.requires.knows
          (knows_gave g.P.Post.shows c.args.self.now c.give.new.seat c.portion.new.queue c.shaded-self.result c.note.new.self c.args.to
          c.in-Some.batch c.requires.knows c.requires.live shown c.shaded-self.ensures c.in-Some.ensures.oldest amount.2)
          (record {
            mine = c.give.ensures.mine;
            others = c.give.ensures.others;
            still = c.give.ensures.still;
            here = ap (λ (s : Shown). s.here) shown;
            halted = ap (λ (s : Shown). s.halted) shown;
            knows_halt = ap (λ (s : Shown). s.knows_halt) shown;
            sums = c.note.ensures.sums ∙ ap (λ (b : Book). b.sums) had;
            lost = λ l. c.note.ensures.lost (ap (λ (b : Book). b.lost) had ∙ l);
          })
          (awaits_given (g.P.Post.shows c.args.self.now.seat) (g.P.Post.shows c.give.new.seat) (g.P.Post.tells c.args.post.now)
          (g.P.Post.tells c.give.new.self) c.args.to c.in-Some.batch shown c.give.ensures.told c.requires.awaits);
      draws = refl;
      serves = ap (λ (s : Shown). s.serves) shown;
      went = λ found fits. record {
        batch = c.in-Some.batch;
        amount = amount.0;
        oldest = c.in-Some.ensures.oldest;
        batches = ap (λ (s : Shown). s.batches) shown ∙ sym (ap (λ (d : Deed). batches_after d (g.P.Post.shows c.args.self.now.seat).batches) is);
        told = tells_as (g.P.Post.shows c.args.self.now.seat).number c.args.self.now.me (give c.args.to c.in-Some.batch)
            (answer_of (c.args.to, c.in-Some.batch)) (g.P.Post.tells c.args.post.now)
            (g.P.Post.tells c.give.new.self) c.requires.knows.number (sym is) c.give.ensures.told;
        writes = subst (λ (d : Deed). Writes c.args.self.now.options.trace (event_of c.args.self.now.me d ∷ []) c.args.self.now.book c.note.new.self) (sym is)
            (subst (λ (b : Book). Writes c.args.self.now.options.trace (Give c.args.self.now.me c.args.to (length c.in-Some.batch) ∷ []) b c.note.new.self) had
            (subst (λ (k : ℕ). Writes c.args.self.now.options.trace
            (Give c.args.self.now.me c.args.to k ∷ []) c.portion.new.book c.note.new.self) c.len-count.ensures c.note.ensures));
      };
    }

pub returns-in-None : goal.returns-in-None
returns-in-None g c =
    let shown = c.refuse.ensures.shown in
    let writes = writes_after c.args.self.now.options.trace _ c.args.self.now.book c.portion.new.book c.note-in-None.new.self
    c.in-None.ensures.same c.portion.ensures.lost c.note-in-None.ensures in
    record {
      on = serves_on g.J.Job.log g.P.Post.shows g.P.Post.tells g.P.Post.seats _ _ _ _ refl c.requires.knows
          (knows_refused g.P.Post.shows c.args.self.now c.refuse.new.seat c.portion.new.queue c.note-in-None.new.self c.args.to
          c.requires.knows shown c.in-None.ensures.rest)
          (record {
            mine = c.refuse.ensures.mine;
            others = c.refuse.ensures.others;
            still = c.refuse.ensures.still;
            here = ap (λ (s : Shown). s.here) shown;
            halted = ap (λ (s : Shown). s.halted) shown;
            knows_halt = ap (λ (s : Shown). s.knows_halt) shown;
            sums = writes.sums;
            lost = writes.lost;
          })
          (awaits_refused (g.P.Post.shows c.args.self.now.seat) (g.P.Post.shows c.refuse.new.seat) (g.P.Post.tells c.args.post.now)
          (g.P.Post.tells c.refuse.new.self) c.args.to shown c.refuse.ensures.told c.requires.awaits);
      draws = refl;
      serves = ap (λ (s : Shown). s.serves) shown;
      went = λ found fits. record {
        batch = [];
        amount = ⊎_elim (λ z. sym z)
            (λ some. ⊎_elim (λ z. sym z) (λ less. absurd (omega arith)) (c.in-None.ensures.none (c.note-in-None.ensures.had found))) fits;
        oldest = sym c.in-None.ensures.rest;
        batches = ap (λ (s : Shown). s.batches) shown;
        told = tells_as (g.P.Post.shows c.args.self.now.seat).number c.args.self.now.me (refuse c.args.to) (refuse c.args.to)
            (g.P.Post.tells c.args.post.now) (g.P.Post.tells c.refuse.new.self) c.requires.knows.number refl c.refuse.ensures.told;
        writes = writes;
      };
    }
