use Rattle.tree_cmp.proofs.Prelude.{List, ap, sym, ◌∙◌, list_all, list_any, Condition, holds, meets}
use Rattle.tree_cmp.proofs.Lists.{list_any-map}
use Rattle.tree_cmp.proofs.expressions.Expr.holds.Goals as goal

pub returns : goal.returns
returns c =
    c.any_met.ensures
    ∙ ap (list_any (λ term. list_all (meets c.args.row.now) term.items)) c.deref.ensures.value
    ∙ sym (list_any-map (λ (term : List Condition). list_all (meets c.args.row.now) term) (λ term. term.items) c.self.inside.terms.items)
    ∙ ap (λ (terms : List (List Condition)). holds terms c.args.row.now) c.self.view_is
