-- The answers of the crate's private functions. Only their clauses cite them, and no public clause needs them.
use Rattle.std.specs.Prelude.{◌≡◌, ◌≢◌, ◌⊎◌, ℕ, ◌+◌, ◌<◌, List, length, Option, Some, None}
use Rattle.whole_lines.specs.Lines.{end_text}
use Rattle.circle_lists.specs.declared.decoding.Refused.{Refused}
use Rattle.circle_lists.specs.declared.decoding.Refused.TheVariants as refused
use Rattle.circle_lists.specs.Spelling.{IsRank, head_text, Agrees, IsDamaged}

-- the largest possible number of ranks
abbrev pub most_ranks : Option ℕ → ℕ
most_ranks None = 64
most_ranks (Some known) = known

-- the text heads the file of the rank, among this number of ranks
pub record IsHead (text : List ℕ) (rank : ℕ) (known : Option ℕ) (ranks : ℕ) : Type 0 where
  pub is_rank : IsRank rank ranks
  pub agrees : Agrees known ranks
  pub tells : text ≡ head_text rank ranks

-- it heads no file of the rank
abbrev pub HeadsNone : List ℕ → ℕ → Option ℕ → Type 0
HeadsNone text rank known = (ranks : ℕ) → IsHead text rank known ranks → ⊥

-- why a text is refused as the file of the rank
abbrev pub IsCause : List ℕ → ℕ → Option ℕ → Refused → Type 0
IsCause bytes rank known (refused.Damaged n) = IsDamaged bytes rank known n
IsCause bytes rank known refused.OutOfMemory = Unit {0}

-- the text of the line after the paths is that of their end line, and nothing follows it
pub record Ends (paths : List (List ℕ)) (text behind : List ℕ) : Type 0 where
  pub tells : text ≡ end_text (length paths)
  pub last : length behind ≡ 0

-- why the paths do not end so
abbrev pub EndsBadly : List (List ℕ) → List ℕ → List ℕ → Refused → Type 0
EndsBadly paths text behind (refused.Damaged n) =
    ((n ≡ length paths + 2) × (text ≢ end_text (length paths)))
    ⊎ ((n ≡ length paths + 3) × (text ≡ end_text (length paths)) × (0 < length behind))
EndsBadly paths text behind refused.OutOfMemory = Unit {0}
