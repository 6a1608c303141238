use Rattle.entry_pages.proofs.Prelude.{◌∙◌, ap, sym, length, List, ℕ, [], sum_by, Entry, Head, path_len, unpacked}
use Rattle.entry_pages.proofs.Inverse.{paths_many}
use Rattle.entry_pages.proofs.pages.Pages.path_bytes.Goals as goal

pub returns : goal.returns
returns c =
    c.path_bytes.ensures ∙ ap (λ (l : List Head × ℕ). sum_by path_len l.0) c.leads.ensures ∙ ap (sum_by path_len) (sym c.self.invariant.heads)
    ∙ paths_many 0 [] (unpacked [] c.self.inside.heads c.self.inside.rests.items) ∙ ap (sum_by (λ (e : Entry). length e.path)) c.self.view_is
