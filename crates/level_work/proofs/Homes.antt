-- Lots without parts.
use Rattle.level_work.proofs.Prelude.{◌≡◌, ℕ, suc, ◌++◌, List, [], ◌∷◌, map, Option, Some, None, IfSome, refl, ap, ◌∙◌, Files, Area, part_tree, part_area}
use Rattle.level_work.proofs.Prelude.{part_count, AtHome, tops_in, tops_out, AreOut, Lot}

module _ {A P : Type 0} (tree : P → Option Files) (area : P → Area) (count : P → ℕ) where
  pub none_out : (lots : List (Lot A P)) → AtHome lots → tops_out (part_area area) lots ≡ []
  none_out [] h = refl
  none_out (lot ∷ lots) h = ap (λ o. tops_in (part_area area o) ++ tops_out (part_area area) lots) (h 0 lot refl) ∙ none_out lots (λ i one at. h (suc i) one at)

  pub none_counted : (lots : List (Lot A P)) → AtHome lots → map (λ lot. part_count count lot.part) lots ≡ map (λ _. 0) lots
  none_counted [] h = refl
  none_counted (lot ∷ lots) h = ap (λ o. part_count count o ∷ map (λ lot. part_count count lot.part) lots) (h 0 lot refl)
      ∙ ap (λ r. 0 ∷ r) (none_counted lots (λ i one at. h (suc i) one at))

  pub all_left : (lots : List (Lot A P)) (t : Option Files) → AtHome lots → IfSome t (λ before. IfSome t (AreOut (part_tree tree) (part_area area) lots before))
  all_left lots None h = tt
  all_left lots (Some before) h = record { left = λ q off. refl; out = λ i lot own q at shows on. absurd (clash lot.part own (h i lot at) shows) }
    where
      clash : (o : Option P) (own : Files) → o ≡ None → part_tree tree o ≡ Some own → ⊥
      clash None own e s = cc
      clash (Some p) own e s = cc
