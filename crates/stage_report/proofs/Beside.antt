-- Nothing done is at or under a left string that is placed.
use Rattle.stage_report.proofs.Prelude.{◌≡◌, false, ◌&&◌, ◌||◌, List, [], ◌∷◌, refl, ap, ◌∙◌, ℕ, nat_lt, not, AllByRecursion, list_any, count_by, or_parts}
use Rattle.stage_report.proofs.Prelude.{All-from_recursion, recursion_from_All, Entry, is_in, is_in_some, swapped, clashes, is_misplaced, ArePlaced, is_open}
use Rattle.stage_report.proofs.Prelude.{IsBeside, all_weaker}

-- ---- what is not misplaced

no_clash : (path : List ℕ) (done : List Entry) → list_any (clashes path) done ≡ false → AllByRecursion (λ e. is_in e.path path ≡ false) done
no_clash path [] h = tt
no_clash path (e ∷ done) h =
    let parts = or_parts (clashes path e) (list_any (clashes path) done) h in
    ((or_parts (is_in e.path path) (is_in path e.path && not (is_open e)) parts.0).0, no_clash path done parts.1)

-- ---- what is placed

placed : (done : List Entry) (left : List (List ℕ)) → ArePlaced done left → AllByRecursion (λ p. is_misplaced done left p ≡ false) left
placed done left h = recursion_from_All (λ p. is_misplaced done left p ≡ false) left h

-- nothing done is at or under it
pub placed_beside : (done : List Entry) (left : List (List ℕ)) → ArePlaced done left → IsBeside done left
placed_beside done left h =
    All-from_recursion (λ e. is_in_some left e.path ≡ false) done
    (all_weaker (λ (e : Entry). AllByRecursion (λ p. is_in e.path p ≡ false) left) (λ e. is_in_some left e.path ≡ false)
    (λ e out. in_none e.path left out) done
    (swapped (λ p (e : Entry). is_in e.path p ≡ false) left done
    (all_weaker (λ p. is_misplaced done left p ≡ false) (λ p. AllByRecursion (λ e. is_in e.path p ≡ false) done)
    (λ p m. no_clash p done (or_parts (list_any (clashes p) done) (nat_lt 1 (count_by (is_in p) left)) m).0)
    left (placed done left h))))
  where
    in_none : (x : List ℕ) (ps : List (List ℕ)) → AllByRecursion (λ p. is_in x p ≡ false) ps → is_in_some ps x ≡ false
    in_none x [] h = refl
    in_none x (p ∷ ps) h = ap (λ b. b || is_in_some ps x) h.0 ∙ in_none x ps h.1
