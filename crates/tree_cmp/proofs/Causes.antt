-- What is named as missed was asked for at its path, and answered so.
use Rattle.tree_cmp.proofs.Prelude.{◌≡◌, ℕ, Bool, true, false, List, [], ◌∷◌, refl, sym, subst, Option, Some, None, IfSome, All, AllByRecursion, filter_map}
use Rattle.tree_cmp.proofs.Prelude.{cons_option, recursion_from_All, All-from_recursion, Asks, Files, Draft, Missing, Missed, HaveCauses, ShowsMissing, IsOf}
use Rattle.tree_cmp.proofs.Prelude.{IsSettled, side_missed, missed_at, missed_by, findings_of}
use Rattle.tree_cmp.specs.declared.reading.Missing.TheVariants as missing
use Rattle.tree_cmp.specs.declared.reading.Outcome.TheVariants as outcome
use Rattle.tree_cmp.proofs.OneRow.{of_map, side_is}

module _ {S : Type 0} (gives : Asks S) (tree : Option Files) (left right : List ℕ) where
  cause : (why : Missing) (d : Draft) → IsSettled gives tree left right d → (dest : Bool) → d.outcome ≡ Some (outcome.Missed dest why)
      → ShowsMissing gives (missed_at left right d.row.path dest).path why
  cause why d s true e = (subst (λ o. IfSome o (IsOf gives tree left right d.row.path d.unread)) e s.own).shows
  cause why d s false e = (subst (λ o. IfSome o (IsOf gives tree left right d.row.path d.unread)) e s.own).shows

  cause_of : (why : Missing) (d : Draft) → IsSettled gives tree left right d → (m : Missed) → missed_by why left right d ≡ Some m
      → ShowsMissing gives m.path why
  cause_of why d s m e =
      let f = of_map (missed_at left right d.row.path) (side_missed why d.outcome) m e in
      subst (λ (x : Missed). ShowsMissing gives x.path why) (sym f.2) (cause why d s f.0 (side_is why d.outcome f.0 f.1))

  causes_of : (why : Missing) (ds : List Draft) → AllByRecursion (IsSettled gives tree left right) ds
      → AllByRecursion (λ m. ShowsMissing gives m.path why) (filter_map (missed_by why left right) ds)
  causes_of why [] h = tt
  causes_of why (d ∷ ds) h =
      elim (missed_by why left right d) as
      (λ o. missed_by why left right d ≡ o
      → AllByRecursion (λ m. ShowsMissing gives m.path why) (cons_option o (filter_map (missed_by why left right) ds))) [
        | None ↦ λ e. causes_of why ds h.1
        | Some m ↦ λ e. (cause_of why d h.0 m e, causes_of why ds h.1)
      ] refl

  pub causes : (drafts : List Draft) → All (IsSettled gives tree left right) drafts → HaveCauses gives (findings_of left right drafts)
  causes drafts settled =
      let all = recursion_from_All (IsSettled gives tree left right) drafts settled in
      let of : (why : Missing) → All (λ (m : Missed). ShowsMissing gives m.path why) (filter_map (missed_by why left right) drafts) =
      λ why. All-from_recursion (λ (m : Missed). ShowsMissing gives m.path why) (filter_map (missed_by why left right) drafts)
      (causes_of why drafts all) in
      record { failed = of missing.Failed; changed = of missing.Changed }
