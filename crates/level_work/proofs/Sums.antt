-- The counts of all lots together.
use Rattle.level_work.proofs.Prelude.{◌≡◌, ℕ, suc, ◌+◌, ◌-◌, ◌^◌, ◌<◌, ◌≤◌, List, [], ◌∷◌, map, length, Option, Some, refl, ap, arith, slice_get, sum_by-cons}
use Rattle.level_work.proofs.Prelude.{slice_index_or, count_by, sum_by, is_failed, NoneAtEnd, Blamed, Lot}
use Rattle.level_work.proofs.Working.{first, others}

pub same_failed : {A P : Type 0} (xs ys : List (Lot A P)) → map (λ (l : Lot A P). l.fates) ys ≡ map (λ (l : Lot A P). l.fates) xs
    → sum_by (λ (l : Lot A P). count_by is_failed l.fates.items) ys ≡ sum_by (λ (l : Lot A P). count_by is_failed l.fates.items) xs
unfolding first others
same_failed [] [] e = refl
same_failed [] (y ∷ ys) e = cc
same_failed (x ∷ xs) [] e = cc
same_failed (x ∷ xs) (y ∷ ys) e = let h = ap (λ v. count_by is_failed (first x.fates v).items) e in
    omega (
      arith,
      h,
      same_failed xs ys (ap others e),
      sum_by-cons (λ l. count_by is_failed l.fates.items) y ys,
      sum_by-cons (λ l. count_by is_failed l.fates.items) x xs,
    )

pub sum_blamed : {A P : Type 0} (part : Option P → ℕ) (count : A → ℕ) (xs ys : List (Lot A P)) → length ys ≡ length xs →
    ((i : ℕ) (d : Lot A P) → i < length xs
    → Blamed (count_by is_failed (slice_index_or ys i d).fates.items) (part (slice_index_or xs i d).part)
    (count (slice_index_or xs i d).actor) (part (slice_index_or ys i d).part) (count (slice_index_or ys i d).actor)) →
    ((i : ℕ) (lot : Lot A P) → slice_get ys i ≡ Some lot → part lot.part < 2 ^ 64 - 1) → NoneAtEnd (map (λ (l : Lot A P). count l.actor) ys) →
    sum_by (λ k. k) (map (λ (l : Lot A P). count l.actor) xs) + sum_by (λ (l : Lot A P). count_by is_failed l.fates.items) ys ≤ sum_by
    (λ (l : Lot A P). part l.part) ys + sum_by (λ k. k) (map (λ (l : Lot A P). count l.actor) ys)
sum_blamed part count [] [] len h p a = omega arith
sum_blamed part count [] (y ∷ ys) len h p a = absurd (omega (arith, len))
sum_blamed part count (x ∷ xs) [] len h p a = absurd (omega (arith, len))
sum_blamed part count (x ∷ xs) (y ∷ ys) len h p a =
    let rest = sum_blamed part count xs ys (omega (arith, len)) (λ i d l. h (suc i) d (omega (arith, l))) (λ i lot at. p (suc i) lot at)
    (λ i k at. a (suc i) k at) in
    let here = (h 0 x (omega arith)).some (p 0 y refl) (a 0 (count y.actor) refl) in
    omega (
      arith,
      rest,
      here,
      sum_by-cons (λ l. count_by is_failed l.fates.items) y ys,
      sum_by-cons (λ l. part l.part) y ys,
      sum_by-cons (λ k. k) (count x.actor) (map (λ l. count l.actor) xs),
      sum_by-cons (λ k. k) (count y.actor) (map (λ l. count l.actor) ys),
    )
