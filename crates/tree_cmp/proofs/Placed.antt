-- Outcomes are put beside the rows, from the last one on.
use Rattle.tree_cmp.proofs.Prelude.{◌≡◌, ℕ, ◌+◌, ◌-◌, ◌<◌, ◌≤◌, List, [], ◌∷◌, map, length, refl, sym, subst, set, get_or, get_or-set_same, get_or-set_other}
use Rattle.tree_cmp.proofs.Prelude.{length-set, ap, ◌∙◌, arith, zero, suc, Option, Some, None, IfSome, sum_by-set, get_or-map, get_or_default, map-set_same}
use Rattle.tree_cmp.proofs.Prelude.{dite, ℕ_discrete, Asks, Files, Draft, Outcome, IsOf, IsOfRow, unsettled, some_counts, blames}

-- ---- a row that was settled

pub set_unsettled : (drafts was : List Draft) (k : ℕ) (x y d : Draft) → map unsettled drafts ≡ was → unsettled x ≡ y → y ≡ get_or drafts k d
    → map unsettled (set drafts k x) ≡ was
set_unsettled drafts was k x y d e same at = map-set_same unsettled drafts k x d (ap unsettled (same ∙ at)) ∙ e

pub set_settled : (P : Draft → Type 0) (drafts : List Draft) (k n : ℕ) (x : Draft) → n ≡ k + 1 → k < length drafts
    → ((j : ℕ) (d : Draft) → n ≤ j → j < length drafts → P (get_or drafts j d)) → P x
    → (j : ℕ) (d : Draft) → k ≤ j → j < length (set drafts k x) → P (get_or (set drafts k x) j d)
set_settled P drafts k n x next inside before here j d h l =
    dite (ℕ_discrete j k)
    (λ e. subst P (sym (ap (λ i. get_or (set drafts k x) i d) e ∙ get_or-set_same drafts k x d inside)) here)
    (λ ne. subst P (sym (get_or-set_other drafts k j x d ne)) (before j d (behind j k n next h ne) (omega (arith, l, length-set drafts k x))))
  where
    behind : (j k n : ℕ) → n ≡ k + 1 → k ≤ j → (j ≡ k → ⊥) → n ≤ j
    behind j k n e h ne = by (j - k) refl
      where
        by : (i : ℕ) → j - k ≡ i → n ≤ j
        by zero z = absurd (ne (omega (arith, h, z)))
        by (suc i) z = omega (arith, e, h, z)

pub set_counted : (drafts : List Draft) (k : ℕ) (x d : Draft) → k < length drafts → blames (set drafts k x) ≤ blames drafts + some_counts x.outcome
set_counted drafts k x d inside = omega (arith, sum_by-set (λ (d : Draft). some_counts d.outcome) drafts k x d inside)

-- ---- rows of which none was read

blames-unsettled : (drafts : List Draft) → blames (map unsettled drafts) ≡ 0
blames-unsettled [] = refl
blames-unsettled (d ∷ drafts) = let h = blames-unsettled drafts in omega arith

pub blames_none : (drafts : List Draft) → map unsettled drafts ≡ drafts → blames drafts ≡ 0
blames_none drafts e = ap blames (sym e) ∙ blames-unsettled drafts

-- the row at a place, where those in front are as they were
pub unread_at : (drafts was : List Draft) (k : ℕ) (y : Draft) → map unsettled was ≡ was → k < length drafts → length was ≡ length drafts
    → y ≡ get_or drafts k y → get_or drafts k y ≡ get_or was k y → unsettled y ≡ y
unread_at drafts was k y e inside long at front =
    let there : y ≡ get_or was k y = at ∙ front in
    let still : get_or was k (unsettled y) ≡ unsettled (get_or was k y) = sym (ap (λ ds. get_or ds k (unsettled y)) e)
    ∙ get_or-map unsettled was k y (unsettled y) (omega arith) in
    ap unsettled there ∙ sym still ∙ get_or_default was k (unsettled y) y (omega arith) ∙ sym there

-- what was kept for a place is of its row
pub kept_at : {S : Type 0} (gives : Asks S) (told now : Option Files) (left right : List ℕ) (drafts was : List Draft) (k : ℕ) (y : Draft) (o : Outcome)
    → now ≡ told → y ≡ get_or drafts k y → get_or drafts k y ≡ get_or was k y → IsOfRow gives told left right was k o
    → IsOf gives now left right y.row.path y.unread o
kept_at gives told now left right drafts was k y o same at front h =
    subst (λ t. IsOf gives t left right y.row.path y.unread o) (sym same)
    (subst (λ (x : Draft). IsOf gives told left right x.row.path x.unread o) (sym (at ∙ front)) (h y))

pub if_some : {X : Type 0} (o : Option X) (P Q : X → Type 0) → ((x : X) → P x → Q x) → IfSome o P → IfSome o Q
if_some None P Q f h = tt
if_some (Some x) P Q f h = f x h

pub as_of : (P : Option Files → Type 0) {t t' : Option Files} → t' ≡ t → P t' → P t
as_of P e p = subst P e p
