-- What is kept is given out.
use Rattle.shared_reads.proofs.Prelude.{ℕ, ◌+◌, ◌<◌, List, [], ◌∷◌, ◌++◌, length, get_or, subst, arith, All, Vec, Global, AllByRecursion, recursion_from_All}
use Rattle.shared_reads.proofs.Prelude.{All-from_recursion, Found, Kept, IsTold, Holds, Stands, IsKept, IsCut, AreCut}

pub all_front : {A : Type 0} (P : A → Type 0) (xs ys : List A) → AllByRecursion P (xs ++ ys) → AllByRecursion P xs
all_front P [] ys h = tt
all_front P (x ∷ xs) ys h = (h.0, all_front P xs ys h.1)

module _ {O : Type 0} where
  cut_holds : (P : ℕ → O → Type 0) (was found : List (Found O)) → IsCut was found → All (IsTold P) was → All (IsTold P) found
  cut_holds P was found c h =
      All-from_recursion (IsTold P) found (all_front (IsTold P) found c.later
      (subst (AllByRecursion (IsTold P)) c.are (recursion_from_All (IsTold P) was h)))

  -- ---- what callers conclude

  pub holds_kept : (P : ℕ → O → Type 0) (place : ℕ) (outcome : O) (kept : Kept O) → Holds P kept → IsKept place outcome kept → P place outcome
  holds_kept P place outcome kept h i = by kept.lists.items h i.inside i.own
    where
      by : (lists : List (Vec (Found O) Global)) → All (λ list. All (IsTold P) list.items) lists → i.of < length lists
          → ((d : Vec (Found O) Global) → Stands place outcome (get_or lists i.of d).items) → P place outcome
      by [] h l own = absurd (omega arith)
      by (v ∷ lists) h l own =
          let s = own v in
          let f : Found O = record { place = place; outcome = outcome } in
          subst (IsTold P) (s.is f) (h i.of v l s.at f s.inside)

  pub holds_cut : (P : ℕ → O → Type 0) (kept kept' : Kept O) → AreCut kept kept' → Holds P kept → Holds P kept'
  holds_cut P kept kept' c h = λ k d l.
      let m : k < length kept.lists.items = omega (arith, c.as_many) in
      cut_holds P (get_or kept.lists.items k d).items (get_or kept'.lists.items k d).items (c.each k d m) (h k d m)
