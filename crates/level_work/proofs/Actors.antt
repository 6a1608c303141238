-- The actors of the lots before and after some work.
use Rattle.level_work.proofs.Prelude.{◌≡◌, ℕ, zero, suc, ◌<◌, ◌≤◌, List, [], ◌∷◌, map, length, Some, refl, ap, ◌∙◌, sym, arith, slice_get, slice_index_or}
use Rattle.level_work.proofs.Prelude.{SameActors, Lot}
use Rattle.level_work.proofs.Working.{first, others, same_some}

pub act_map : {A P X : Type 0} (f : A → X) (xs ys : List (Lot A P)) → map (λ (l : Lot A P). l.actor) ys ≡ map (λ (l : Lot A P). l.actor) xs
    → map (λ (l : Lot A P). f l.actor) ys ≡ map (λ (l : Lot A P). f l.actor) xs
unfolding first others
act_map f [] [] e = refl
act_map f [] (y ∷ ys) e = cc
act_map f (x ∷ xs) [] e = cc
act_map f (x ∷ xs) (y ∷ ys) e = ap (λ v. f v ∷ map (λ l. f l.actor) ys) (ap (first x.actor) e) ∙ ap (λ r. f x.actor ∷ r) (act_map f xs ys (ap others e))

module _ {A P D : Type 0} (plain : A → D) (count : A → ℕ) where
  pub idle_actors : (xs ys : List (Lot A P)) → map (λ (l : Lot A P). l.actor) ys ≡ map (λ (l : Lot A P). l.actor) xs → SameActors plain count xs ys
  idle_actors xs ys e = record {
    plains = act_map plain xs ys e;
    counts = λ i k k' a b. let s = same_some k k' (sym a ∙ ap (λ m. slice_get m i) (sym (act_map count xs ys e)) ∙ b) in omega (arith, s);
  }

  pub actors_over : (xs' xs ys ys' : List (Lot A P)) → map (λ (l : Lot A P). l.actor) xs ≡ map (λ (l : Lot A P). l.actor) xs'
      → map (λ (l : Lot A P). l.actor) ys' ≡ map (λ (l : Lot A P). l.actor) ys → SameActors plain count xs ys
      → SameActors plain count xs' ys'
  actors_over xs' xs ys ys' e f s = record {
    plains = act_map plain ys ys' f ∙ s.plains ∙ act_map plain xs' xs e;
    counts = λ i k k' a b. s.counts i k k' (ap (λ m. slice_get m i) (act_map count xs' xs e) ∙ a) (ap (λ m. slice_get m i) (sym (act_map count ys ys' f)) ∙ b);
  }

  pub worked_actors : (xs ys : List (Lot A P)) → length ys ≡ length xs
      → ((i : ℕ) (d : Lot A P) → i < length xs → (plain (slice_index_or ys i d).actor ≡ plain (slice_index_or xs i d).actor)
      × (count (slice_index_or xs i d).actor ≤ count (slice_index_or ys i d).actor)) → SameActors plain count xs ys
  worked_actors xs ys len h = record { plains = plains xs ys len h; counts = counts xs ys len h }
    where
      plains : (xs ys : List (Lot A P)) → length ys ≡ length xs
          → ((i : ℕ) (d : Lot A P) → i < length xs → (plain (slice_index_or ys i d).actor ≡ plain (slice_index_or xs i d).actor)
          × (count (slice_index_or xs i d).actor ≤ count (slice_index_or ys i d).actor))
          → map (λ (l : Lot A P). plain l.actor) ys ≡ map (λ (l : Lot A P). plain l.actor) xs
      plains [] [] len h = refl
      plains [] (y ∷ ys) len h = absurd (omega (arith, len))
      plains (x ∷ xs) [] len h = absurd (omega (arith, len))
      plains (x ∷ xs) (y ∷ ys) len h = ap (λ v. v ∷ map (λ (l : Lot A P). plain l.actor) ys) (h 0 x (omega arith)).0
          ∙ ap (λ r. plain x.actor ∷ r) (plains xs ys (omega (arith, len)) (λ i d l. h (suc i) d (omega (arith, l))))

      counts : (xs ys : List (Lot A P)) → length ys ≡ length xs
          → ((i : ℕ) (d : Lot A P) → i < length xs → (plain (slice_index_or ys i d).actor ≡ plain (slice_index_or xs i d).actor)
          × (count (slice_index_or xs i d).actor ≤ count (slice_index_or ys i d).actor)) →
          (i k k' : ℕ) → slice_get (map (λ (l : Lot A P). count l.actor) xs) i ≡ Some k
          → slice_get (map (λ (l : Lot A P). count l.actor) ys) i ≡ Some k' → k ≤ k'
      counts [] ys len h i k k' a b = cc
      counts (x ∷ xs) [] len h i k k' a b = absurd (omega (arith, len))
      counts (x ∷ xs) (y ∷ ys) len h zero k k' a b = let u = same_some (count x.actor) k a in let v = same_some (count y.actor) k' b in
          omega (arith, u, v, (h 0 x (omega arith)).1)
      counts (x ∷ xs) (y ∷ ys) len h (suc i) k k' a b = counts xs ys (omega (arith, len)) (λ i d l. h (suc i) d (omega (arith, l))) i k k' a b
