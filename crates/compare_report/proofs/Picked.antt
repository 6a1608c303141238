-- One pass over the entries of a list.
use Rattle.compare_report.proofs.Prelude.{◌≡◌, ℕ, ◌+◌, Bool, List, [], ◌∷◌, ◌++◌, take, get_or, cond, filter, ap, sym, ◌∙◌, subst, append_assoc}
use Rattle.compare_report.proofs.Prelude.{IsStrictlySortedBy, filter-append, path_cmp, Entry, paths, IsPassed, IsNext, IsHere, follow, step, taken}
use Rattle.compare_report.proofs.Prelude.{passed_later}

-- so a search that did not pass the one before it does not pass it
pub next_by_path : (side : List Entry) (k : ℕ) (e : Entry) (new : List Entry × ℕ) (all : List (List ℕ)) (at : ℕ) → IsHere side k e new →
    IsStrictlySortedBy path_cmp (paths side) → IsPassed all at e.path → IsNext IsPassed (λ e. e.path) side new.1 all at
next_by_path side k e new all at h s p =
    subst (λ n. IsNext IsPassed (λ e. e.path) side n all at) (sym (step side k e new h))
    (p.inside, λ d l. passed_later all at e.path (get_or side (k + 1) d).path (follow side k e d new h s l) p)

-- what was picked of the entries so far
pub picked_more : (P : Entry → Bool) (side list was now : List Entry) (k : ℕ) (e : Entry) (new : List Entry × ℕ) (picked : Bool) → IsHere side k e new →
    was ≡ list ++ filter P (take k side) → picked ≡ P e → now ≡ was ++ cond picked (e ∷ []) [] → now ≡ list ++ filter P (take new.1 side)
picked_more P side list was now k e new picked h so_far is more =
    more ∙ (λ i. so_far i ++ cond (is i) (e ∷ []) [])
    ∙ append_assoc list (filter P (take k side)) (cond (P e) (e ∷ []) [])
    ∙ ap (λ l. list ++ l) (sym (filter-append P (take k side) (e ∷ []))) ∙ ap (λ l. list ++ filter P l) (sym (taken side k e new h))
