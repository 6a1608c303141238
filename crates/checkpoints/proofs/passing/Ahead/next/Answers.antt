use Rattle.checkpoints.proofs.Prelude.{◌≡◌, ◌∷◌, ◌∙◌, ap, sym, Bool, false, List, drop, Entry, entry_left, ahead_of, first_of}
use Rattle.checkpoints.proofs.passing.Ahead.next.Goals as goal

pub returns : goal.returns
returns c =
    let old = c.self.inside.cursor in
    let e = c.entry.result.now in
    let here : ahead_of false old ≡ e ∷ drop old.1 old.0 = entry_left old e (c.self.invariant c.if-self.false).0 c.entry.ensures.at in
    ap first_of (sym here) ∙ ap (λ (b : Bool). first_of (ahead_of b old)) (sym c.if-self.false)
    ∙ ap (λ (v : List Entry × List Entry). first_of v.1) c.self.view_is
