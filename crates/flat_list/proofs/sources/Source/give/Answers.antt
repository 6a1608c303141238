use Rattle.flat_list.proofs.Prelude.{◌++◌, ◌∙◌, ap, sym, Bool, List, Entry, left_of}
use Rattle.flat_list.proofs.Sourced.{Stepped, given}
use Rattle.flat_list.proofs.sources.Source.give.Goals as goal

pub returns-clause-moved : goal.returns-clause-moved
returns-clause-moved c =
    let all = c.args.all.now in
    let old = c.self.inside.cursor in
    let s : Stepped old c.advance.new.self c.in_ok-more.more =
    record { answer = c.in_ok-more.ensures.answer; passed = c.in_ok-more.ensures.passed } in
    given all c.add.new.self c.entry.result.now (c.self.invariant c.if-self.false).0 c.entry.ensures.at s c.in_ok-add.ensures.ok
    ∙ ap (λ (b : Bool). all ++ left_of b old) (sym c.if-self.false) ∙ ap (λ (xs : List Entry). all ++ xs) c.self.view_is
