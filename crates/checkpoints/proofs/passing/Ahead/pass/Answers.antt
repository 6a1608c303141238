use Rattle.checkpoints.proofs.Prelude.{◌∙◌, ap, sym, Bool, List, Entry, Stepped, passed_of, ahead_of, moved}
use Rattle.checkpoints.proofs.Stepping.{stepped}
use Rattle.checkpoints.proofs.passing.Ahead.pass.Goals as goal

pub returns : goal.returns
returns c =
    let old = c.self.inside.cursor in
    let s : Stepped old c.advance.new.self c.in_ok-more.more =
    record { answer = c.in_ok-more.ensures.answer; passed = c.in_ok-more.ensures.passed } in
    let ready = c.self.invariant c.if-self.false in
    stepped ready.0 ready.1 s ∙ ap (λ (b : Bool). moved (passed_of b old) (ahead_of b old)) (sym c.if-self.false)
    ∙ ap (λ (v : List Entry × List Entry). moved v.0 v.1) c.self.view_is
