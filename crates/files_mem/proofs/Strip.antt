use Rattle.files_mem.proofs.Prelude.{◌≡◌, ℕ, true, false, List, ◌++◌, length, drop, Option, Some, None, refl, ap, ◌∙◌, sym, eqb, IfNone, IfSome, starts_with}
use Rattle.files_mem.proofs.Prelude.{MatchOption, FindsTextPrefix, StripsPrefix, begins, Bor}

pub strip_off : (front text : List ℕ) (r : Option (Bor (List ℕ)))
    → MatchOption r (FindsTextPrefix front text None) (λ x. StripsPrefix (FindsTextPrefix front) text x.now)
    → IfNone r (starts_with eqb text front ≡ false)
strip_off front text None h =
    elim (starts_with eqb text front) as (λ b. starts_with eqb text front ≡ b → b ≡ false) [
      | true ↦ λ e. absurd (h (drop (length front) text) (begins text front e))
      | false ↦ λ e. refl
    ] refl
strip_off front text (Some x) h = tt

pub strip_on : (front text : List ℕ) (r : Option (Bor (List ℕ)))
    → MatchOption r (FindsTextPrefix front text None) (λ x. StripsPrefix (FindsTextPrefix front) text x.now)
    → IfSome r (λ x. text ≡ front ++ x.now)
strip_on front text None h = tt
strip_on front text (Some x) h = h.1.1 ∙ ap (λ r. front ++ r) (sym h.2)
