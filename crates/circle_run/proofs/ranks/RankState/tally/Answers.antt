use Rattle.circle_run.proofs.Prelude.{◌≡◌, ℕ, ◌+◌, ◌-◌, ◌^◌, min, ap, sym, ◌∙◌, subst, arith, SumShown, IsLeaf, tallied, Did}
use Rattle.circle_run.proofs.Adding.{adds_up_raised}
use Rattle.circle_run.proofs.Tallied.{tallied_more, none_tallied}
use Rattle.circle_run.proofs.ranks.RankState.tally.Goals as goal

pub returns-in-Handled-clause-ready : goal.returns-in-Handled-clause-ready
returns-in-Handled-clause-ready g c = λ strings old.
    let s = c.show.ensures in
    let up = c.raise.ensures.shown in
    tallied_more g.Q.Sums.shows g.Q.Sums.seats strings
    (tallied c.args.did strings) c.args.self.now c.show.new.self c.args.sums.now c.show.new.sums c.requires.unfinished
    s.same s.lost s.mine
    (ap (λ (x : SumShown). x.number) s.shown ∙ ap (λ (x : SumShown). x.number) up)
    (ap (λ (x : SumShown). x.n) s.shown ∙ ap (λ (x : SumShown). x.n) up)
    (ap (λ (x : SumShown). x.width) s.shown ∙ ap (λ (x : SumShown). x.width) up)
    (ap (λ (x : SumShown). x.answer) s.shown ∙ ap (λ (x : SumShown). x.answer) up ∙ c.requires.unfinished)
    (let a : (g.Q.Sums.shows c.show.new.self.sums_seat).count ≡ min ((g.Q.Sums.shows c.args.self.now.sums_seat).count + 1) (2 ^ 56 - 1) =
    ap (λ (x : SumShown). x.count) s.shown ∙ ap (λ (x : SumShown). x.count) up in omega arith)
    (λ counts. (let a : (g.Q.Sums.shows c.show.new.self.sums_seat).count
    ≡ min ((g.Q.Sums.shows c.args.self.now.sums_seat).count + 1) (2 ^ 56 - 1) = ap (λ (x : SumShown). x.count) s.shown
    ∙ ap (λ (x : SumShown). x.count) up in
    let b : tallied c.args.did strings ≡ strings + 1 = ap (λ (d : Did). tallied d strings) c.in-Handled.is in omega (arith, counts)))
    (let a : (g.Q.Sums.shows c.raise.new.seat).word ≡ (g.Q.Sums.shows c.args.self.now.sums_seat).word = ap (λ (x : SumShown). x.word) up in
    let b = s.rises in omega arith)
    (λ leaf. s.alone (let a : (g.Q.Sums.shows c.raise.new.seat).n ≡ (g.Q.Sums.shows c.args.self.now.sums_seat).n =
    ap (λ (x : SumShown). x.n) up in subst IsLeaf (sym up) leaf) ∙ sym (ap (λ (x : SumShown). x.count) s.shown))
    s.more s.few s.rest old

pub returns-then-self-clause-ready : goal.returns-then-self-clause-ready
returns-then-self-clause-ready g c = λ strings old.
    let s = c.show-then-self.ensures in
    tallied_more g.Q.Sums.shows g.Q.Sums.seats strings
    (tallied c.args.did strings) c.args.self.now c.show-then-self.new.self c.args.sums.now c.show-then-self.new.sums
    c.requires.unfinished
    s.same s.lost s.mine
    (ap (λ (x : SumShown). x.number) s.shown)
    (ap (λ (x : SumShown). x.n) s.shown)
    (ap (λ (x : SumShown). x.width) s.shown)
    (ap (λ (x : SumShown). x.answer) s.shown ∙ c.requires.unfinished)
    (let a : (g.Q.Sums.shows c.show-then-self.new.self.sums_seat).count ≡ (g.Q.Sums.shows c.args.self.now.sums_seat).count =
    ap (λ (x : SumShown). x.count) s.shown in omega arith)
    (λ counts. ap (λ (x : SumShown). x.count) s.shown ∙ counts
    ∙ ap (λ (k : ℕ). min k (2 ^ 56 - 1)) (sym (none_tallied c.args.did strings c.in_default.not-Handled)))
    s.rises
    (λ leaf. s.alone leaf ∙ sym (ap (λ (x : SumShown). x.count) s.shown))
    s.more s.few s.rest old

pub returns-in-Handled-clause-adds_up : goal.returns-in-Handled-clause-adds_up
returns-in-Handled-clause-adds_up g c = λ handled.
    let was = g.Q.Sums.shows c.args.self.now.sums_seat in
    adds_up_raised 1 (g.Q.Sums.tells c.args.sums.now) (g.Q.Sums.tells c.raise.new.self) was (g.Q.Sums.shows c.show.new.self.sums_seat)
    (g.met.Q.Sums.agrees c.args.sums.now c.args.self.now.sums_seat c.requires.seat) c.raise.ensures.told c.show.ensures.adds_up
