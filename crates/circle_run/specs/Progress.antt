-- The numbers of progress that rank 0 keeps while its word of the sums rises. Our own.
use Rattle.std.specs.Prelude.{◌≡◌, ◌≢◌, ℕ, ◌+◌, ◌-◌, ◌^◌, ◌<◌, ◌≤◌, min, List, [], ◌∷◌, ◌++◌, Option, Some, None}
use Rattle.sum_tree.specs.Shown.{SumShown}

-- each number is at least 1,000 above the one before it, and the first is so above this
abbrev pub Rises : ℕ → List ℕ → Type 0
Rises from [] = Unit {0}
Rises from (x ∷ numbers) = (from + 1000 ≤ x) × Rises x numbers

-- each number is exactly 1,000 above the one before it, and the first is so above this
abbrev pub Thousands : ℕ → List ℕ → Type 0
Thousands from [] = Unit {0}
Thousands from (x ∷ numbers) = (x ≡ from + 1000) × Thousands x numbers

-- the last of the numbers, or this if there is none
abbrev pub newest : ℕ → List ℕ → ℕ
newest from [] = from
newest from (x ∷ numbers) = newest x numbers

-- the numbers kept of a word that shows so much: none before was passed over, and with one rank the word is the count
pub record Keeps (numbers : List ℕ) (word : ℕ) (s : SumShown) : Type 0 where
  pub rises : Rises 0 numbers
  pub within : newest 0 numbers ≤ word
  pub next : word < newest 0 numbers + 1000
  pub alone : s.n ≡ 1 → (word ≡ s.count) × Thousands 0 numbers

-- at last the final sum is kept
pub record KeptAll (numbers : List ℕ) (sum : ℕ) (s : SumShown) : Type 0 where
  pub front : List ℕ
  pub are : numbers ≡ front ++ sum ∷ []
  pub rises : Rises 0 front
  pub within : newest 0 front ≤ sum
  pub alone : s.n ≡ 1 → (sum ≡ s.count) × Thousands 0 front × (sum < newest 0 front + 1000)

abbrev pub KeptOf : Option ℕ → List ℕ → SumShown → Type 0
KeptOf None numbers s = Keeps numbers s.word s
KeptOf (Some sum) numbers s = KeptAll numbers sum s

-- rank 0 keeps numbers, and no other rank does
pub record Progress (me : ℕ) (numbers : List ℕ) (s : SumShown) : Type 0 where
  pub first : me ≡ 0 → KeptOf s.answer numbers s
  pub rest : me ≢ 0 → numbers ≡ []

-- the rank counted the strings that it handled
abbrev pub Counts : ℕ → SumShown → Type 0
Counts strings s = s.count ≡ min strings (2 ^ 56 - 1)
