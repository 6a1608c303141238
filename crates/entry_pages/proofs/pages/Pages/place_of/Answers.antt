use Rattle.entry_pages.proofs.Prelude.{ℕ, List, [], sym, ap, subst, ◌∙◌, unpacked, place_of, IsSeek}
use Rattle.entry_pages.proofs.Sought.{seek_first}
use Rattle.entry_pages.proofs.pages.Pages.place_of.Goals as goal

pub place_in-requires : goal.place_in-requires
place_in-requires c =
    let hs = c.self.inside.heads in
    subst (λ (b : List ℕ). IsSeek hs b c.as_bytes.result.now 0 0 0 (unpacked [] hs b)) (sym c.deref.ensures.value)
    (seek_first _ _ _ _ _ _ c.self.invariant)

pub returns : goal.returns
returns c =
    let w = c.as_bytes.result.now in
    c.place_in.ensures ∙ ap (λ (b : List ℕ). place_of w (unpacked [] c.self.inside.heads b)) c.deref.ensures.value
    ∙ ap (place_of w) c.self.view_is ∙ ap (λ (p : List ℕ). place_of p c.args.self.now) (c.as_bytes.ensures.value ∙ c.text.ensures.text)
