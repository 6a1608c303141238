-- The steps that each call makes on the words, if a seat tells them. A word is twice a number, and one more if it is final. Our own.
use Rattle.std.specs.Prelude.{◌≡◌, ℕ, ◌+◌, ◌*◌, ◌/◌, ◌%◌, ◌==◌, List, [], ◌∷◌, ◌++◌, map, All, if◌then◌else◌, true, false, Bool, Option, Some, None, is_some}
use Rattle.std.specs.List.{sum_by, list_all}
use Rattle.sum_tree.specs.Tree.{children}
use Rattle.sum_tree.specs.Shown.{SumShown}
use Rattle.sum_tree.specs.declared.ranks.Reading.{Reading}

abbrev pub coded : ℕ → Bool → ℕ
coded number final = if final then 2 * number + 1 else 2 * number

-- the rank's own word, as the seat shows it
abbrev pub own_word : SumShown → ℕ
own_word s = coded s.word (is_some s.answer)

-- the number that was read, and whether it was final
abbrev pub number_read : Reading → ℕ
number_read x = x.found / 2

abbrev pub is_final_read : Reading → Bool
is_final_read x = x.found % 2 == 1

-- the words of these ranks were read, in this order, and left as they were
pub record Reads (ranks : List ℕ) (steps : List Reading) : Type 0 where
  pub words : map (λ x. x.word) steps ≡ ranks
  pub kept : All (λ x. x.left ≡ x.found) steps

abbrev pub Steps : Type 1
Steps = List Reading → Type 0

-- a seat that tells its steps tells these more; one that tells none stays so
abbrev pub Adds : Option (List Reading) → Steps → Option (List Reading) → Type 0
Adds None P after = after ≡ None
Adds (Some before) P after = (more : List Reading) × P more × (after ≡ Some (before ++ more))

-- the words of all children are read, and then the own word holds the own count and the numbers that were read
pub record RefreshSteps (s : SumShown) (word : ℕ) (steps : List Reading) : Type 0 where
  pub loads : List Reading
  pub read : Reads (children s.n s.width s.number) loads
  pub sum : word ≡ s.count + sum_by number_read loads
  pub are : steps ≡ loads ++ record { word = s.number; found = own_word s; left = coded word false } ∷ []

-- the words of the children are read up to the first that is not final
pub record BlockedSteps (s : SumShown) (steps : List Reading) : Type 0 where
  pub loads : List Reading
  pub last : Reading
  pub rest : List ℕ
  pub front : List ℕ
  pub read : Reads front steps
  pub in_order : front ++ rest ≡ children s.n s.width s.number
  pub final : list_all is_final_read loads ≡ true
  pub blocked : is_final_read last ≡ false
  pub are : steps ≡ loads ++ last ∷ []

-- the words of all children are read, each final, and then the own word is the final sum
pub record FinalSteps (s : SumShown) (sum : ℕ) (steps : List Reading) : Type 0 where
  pub loads : List Reading
  pub read : Reads (children s.n s.width s.number) loads
  pub final : list_all is_final_read loads ≡ true
  pub total : sum ≡ s.count + sum_by number_read loads
  pub are : steps ≡ loads ++ record { word = s.number; found = own_word s; left = coded sum true } ∷ []

abbrev pub FinishSteps : SumShown → Option ℕ → Steps
FinishSteps s None steps = BlockedSteps s steps
FinishSteps s (Some sum) steps = FinalSteps s sum steps

-- the own word is read
abbrev pub ShownSteps : SumShown → Steps
ShownSteps s steps = steps ≡ record { word = s.number; found = own_word s; left = own_word s } ∷ []
