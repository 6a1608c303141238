use Rattle.flat_list.proofs.Prelude.{◌≡◌, ◌-◌, ◌<◌, ◌∙◌, ℕ, List, [], ◌∷◌, ◌++◌, take, ap, sym, subst, Entry, taken_last}
use Rattle.std.specs.Prelude.{Some}
use Rattle.flat_list.proofs.cursors.Cursor.entry.Goals as goal

pub returns-clause-last : goal.returns-clause-last
returns-clause-last c =
    let e = c.entry.result.now in
    let some : 0 < c.self.inside.reader.1 = subst (λ (v : List Entry × ℕ). 0 < v.1) (sym c.self.view_is) c.requires in
    subst (λ (v : List Entry × ℕ). take v.1 v.0 ≡ take (v.1 - 1) v.0 ++ e ∷ []) c.self.view_is
    (taken_last c.self.inside.reader.0 c.self.inside.reader.1 e some (c.self.invariant.1 some ∙ ap Some (sym c.entry.ensures)))
