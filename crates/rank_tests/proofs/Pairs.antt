-- The two seats of a board of two ranks.
use Rattle.rank_tests.proofs.Prelude.{◌≡◌, ◌<◌, ℕ, zero, suc, sym, subst, ap, ◌∙◌, arith, List, [], ◌∷◌, get_or, Option, Some, IfSome, Shown, Batches, AllFresh}
use Rattle.post_board.specs.Fresh.{fresh}

-- what was answered of a list of two
pub pair_of : {A : Type 0} (all : List A) (answer : Option (A × A)) (first second : A) → IfSome answer (λ pair. all ≡ pair.0 ∷ pair.1 ∷ [])
    → answer ≡ Some (first, second) → all ≡ first ∷ second ∷ []
pair_of {A} all answer first second found is = subst (λ (x : Option (A × A)). IfSome x (λ pair. all ≡ pair.0 ∷ pair.1 ∷ [])) is found

module _ {S : Type 0} (shows : S → Shown) (seats : S → Type 0) where
  -- a seat of the rank k, one of two, that has done nothing
  pub record New (k : ℕ) (s : S) : Type 0 where
    pub mine : seats s
    pub unused : shows s ≡ fresh 2 k (shows s).batches

  new : (k : ℕ) (s : S) (b : Option Batches) → seats s × (shows s ≡ fresh 2 k b) → New k s
  new k s b h = record { mine = h.0; unused = h.1 ∙ ap (fresh 2 k) (sym (ap (λ (x : Shown). x.batches) h.1)) }

  pub both_new : (all : List S) (answer : Option (S × S)) (first second : S) (b : Option Batches) → AllFresh shows seats 2 b all
      → IfSome answer (λ pair. all ≡ pair.0 ∷ pair.1 ∷ []) → answer ≡ Some (first, second) → New 0 first × New 1 second
  both_new all answer first second b made found is =
      let whole : all ≡ first ∷ second ∷ [] = pair_of all answer first second found is in (
        new 0 first b (subst (λ (xs : List S). seats (get_or xs 0 first) × (shows (get_or xs 0 first) ≡ fresh 2 0 b)) whole (made.each 0 first (omega arith))),
        new 1 second b (subst (λ (xs : List S). seats (get_or xs 1 first) × (shows (get_or xs 1 first) ≡ fresh 2 1 b)) whole (made.each 1 first (omega arith))),
      )

module _ {S : Type 0} (Is : ℕ → S → Type 0) where
  -- what holds of each of two by its place
  pub both_are : (all : List S) (answer : Option (S × S)) (first second : S) → ((k : ℕ) (d : S) → k < 2 → Is k (get_or all k d))
      → IfSome answer (λ pair. all ≡ pair.0 ∷ pair.1 ∷ []) → answer ≡ Some (first, second) → Is 0 first × Is 1 second
  both_are all answer first second each found is =
      let whole : all ≡ first ∷ second ∷ [] = pair_of all answer first second found is in (
        subst (λ (xs : List S). Is 0 (get_or xs 0 first)) whole (each 0 first (omega arith)),
        subst (λ (xs : List S). Is 1 (get_or xs 1 second)) whole (each 1 second (omega arith)),
      )

-- a list of two, read at a place
pub two_by : {S : Type 0} (Is : ℕ → S → Type 0) (a b : S) → Is 0 a → Is 1 b → (k : ℕ) (d : S) → k < 2 → Is k (get_or (a ∷ b ∷ []) k d)
two_by Is a b first second zero d below = first
two_by Is a b first second (suc zero) d below = second
two_by Is a b first second (suc (suc k)) d below = absurd (omega arith)
