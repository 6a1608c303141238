-- The facts that a seat shows: a rank's knowledge about itself and its mailbox. Busy and colour are EWD840's; the rest is our own.
use Rattle.std.specs.Prelude.{◌≡◌, ℕ, Bool, true, false, List, [], ◌∷◌, ◌++◌, slice_set, slice_index_or, Option, Some, None}
use Rattle.ring_core.specs.World.{darker}
use Rattle.ring_core.specs.declared.states.Colour.{Colour}
use Rattle.ring_core.specs.declared.states.Colour.TheVariants.{Black}

-- strings on their way together, oldest first
abbrev pub Strings : Type 0
Strings = List (List ℕ)

-- the batches that a rank gave to each rank and took from each rank, in order
pub record Batches : Type 0 where
  pub given : List (List Strings)
  pub taken : List (List Strings)

pub record Shown : Type 0 where
  -- the rank, and how many ranks there are
  pub number : ℕ
  pub n : ℕ
  -- it may have strings
  pub busy : Bool
  pub colour : Colour
  -- its last request was refused
  pub tried : Bool
  -- the rank that it asked, if its mailbox is not at rest
  pub asked : Option ℕ
  -- for each rank, whether it took up a request of it that it has not answered
  pub serves : List Bool
  -- the token's colour, if it knows that the token is here
  pub here : Option Colour
  -- it saw the end
  pub ended : Bool
  -- it told all to halt; it knows that one did; it has stopped
  pub halted : Bool
  pub knows_halt : Bool
  pub stopped : Bool
  -- if the seat keeps them
  pub batches : Option Batches

abbrev pub is_served : Shown → ℕ → Bool
is_served s r = slice_index_or s.serves r false

-- neither ended nor stopped
abbrev pub Live : Shown → Type 0
Live s = (s.ended ≡ false) × (s.stopped ≡ false)

-- the mailbox is at rest and nobody waits for an answer
abbrev pub Free : Shown → Type 0
Free s = (s.asked ≡ None) × ((r : ℕ) → is_served s r ≡ false)

abbrev pub is_open : Shown → Bool
is_open s = elim s.asked [ None ↦ false | Some victim ↦ true ]

-- the rank that an open request went to
abbrev pub victim_of : Shown → ℕ
victim_of s = elim s.asked [ None ↦ 0 | Some victim ↦ victim ]

abbrev pub is_here : Shown → Bool
is_here s = elim s.here [ None ↦ false | Some colour ↦ true ]

-- the colour of the token that it knows here
abbrev pub token_of : Shown → Colour
token_of s = elim s.here [ None ↦ Black | Some colour ↦ colour ]

-- the colour with which it moves the token on
abbrev pub mixed : Shown → Colour
mixed s = darker s.colour (token_of s)

-- one batch more for the rank r
abbrev pub more : List (List Strings) → ℕ → Strings → List (List Strings)
more batches r batch = slice_set batches r (slice_index_or batches r [] ++ batch ∷ [])

abbrev pub with_given : Option Batches → ℕ → Strings → Option Batches
with_given None to batch = None
with_given (Some b) to batch = Some (record b { given = more b.given to batch })

abbrev pub with_taken : Option Batches → ℕ → Strings → Option Batches
with_taken None from batch = None
with_taken (Some b) from batch = Some (record b { taken = more b.taken from batch })
