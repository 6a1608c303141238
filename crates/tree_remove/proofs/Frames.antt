-- A map at and under a path, and with one node put into it.
use Rattle.tree_remove.proofs.Prelude.{◌≡◌, ℕ, cond, List, None, ap, ◌∙◌, sym, get, get-remove, path_cmp_total, path_cmp_ties, Files, at_itself}

-- nothing is where something was removed
pub removed_here : (files : Files) (p : List ℕ) → get (Rattle.std.specs.FinMap.remove files p) p ≡ None
removed_here files p =
    get-remove path_cmp_total files p p ∙ ap (λ b. cond b None (get files p)) (sym (path_cmp_ties p p) ∙ at_itself p)
