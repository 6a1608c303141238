-- The steps that each call makes on the words of a board, if a seat tells them. Our own.
use Rattle.std.specs.Prelude.{All, ◌≡◌, ◌≢◌, ℕ, zero, suc, ◌+◌, ◌^◌, ◌==◌, ◌⊎◌, true, false, if◌then◌else◌, List, map, [], ◌∷◌, ◌++◌, bit_or}
use Rattle.std.specs.Prelude.{Option, Some, None}
use Rattle.ring_core.specs.World.{is_over}
use Rattle.ring_core.specs.Step.{is_at}
use Rattle.ring_core.specs.declared.states.Token.{Token}
use Rattle.ring_core.specs.declared.states.Token.TheVariants.{At, Over as TokenOver}
use Rattle.post_board.specs.Shown.{Shown, victim_of}
use Rattle.post_board.specs.Words.{Sign, sign, resting, asking, serving, full, fetching, emptied, token_read, has_bit}
use Rattle.post_board.specs.declared.answers.Answer.{Answer}
use Rattle.post_board.specs.declared.answers.Answer.TheVariants.{Pending, Nothing, Work}
use Rattle.post_board.specs.declared.answers.Ring.{Ring}
use Rattle.post_board.specs.declared.answers.Ring.TheVariants.{Elsewhere, Here, Over, Halted}
use Rattle.post_board.specs.declared.answers.Reading.{Reading}

abbrev pub Steps : Type 1
Steps = List Reading → Type 0

-- a seat that tells its steps tells these more; one that tells none still tells none
abbrev pub Adds : Option (List Reading) → Steps → Option (List Reading) → Type 0
Adds None P after = after ≡ None
Adds (Some old) P after = (more : List Reading) × P more × (after ≡ Some (old ++ more))

-- a step at this word, which found this and left that
abbrev pub Step : ℕ → (ℕ → Type 0) → (ℕ → Type 0) → Reading → Type 0
Step word found left x = (x.word ≡ word) × found x.found × left x.left

-- a word that was read and left as it was
abbrev pub Read : ℕ → (ℕ → Type 0) → Reading → Type 0
Read word found x = (x.word ≡ word) × found x.found × (x.left ≡ x.found)

abbrev pub Is : Sign → ℕ → Type 0
Is s word = sign word ≡ s

abbrev pub One : (Reading → Type 0) → Steps
One P steps = (x : Reading) × P x × (steps ≡ x ∷ [])

abbrev pub Two : (Reading → Type 0) → (Reading → Type 0) → Steps
Two P Q steps = (x y : Reading) × P x × Q y × (steps ≡ x ∷ y ∷ [])

abbrev pub Three : (Reading → Type 0) → (Reading → Type 0) → (Reading → Type 0) → Steps
Three P Q R steps = (x y z : Reading) × P x × Q y × R z × (steps ≡ x ∷ y ∷ z ∷ [])

abbrev pub Four : (Reading → Type 0) → (Reading → Type 0) → (Reading → Type 0) → (Reading → Type 0) → Steps
Four P Q R S steps = (x y z u : Reading) × P x × Q y × R z × S u × (steps ≡ x ∷ y ∷ z ∷ u ∷ [])

abbrev pub AskSteps : Shown → ℕ → Steps
AskSteps s victim = One (Step (s.number + 1) (Is resting) (Is (asking victim)))

-- First the word of the stops is read: if the bit of the asked rank is set, no answer can come any more. Then the own mailbox. It still asks
-- or is taken up, if that bit was not set. Or it was refused and is put to rest. Or, if the bit was set, it is taken back in one step that
-- found it still asking. Or it was filled, is fetched and put to rest, whether the bit was set or not.
abbrev pub AnswerSteps : Shown → Answer → Steps
AnswerSteps s Pending steps =
    Two (Read (s.n + 2) (λ w. has_bit w (victim_of s) ≡ false))
    (Read (s.number + 1) (λ w. Is (asking (victim_of s)) w ⊎ Is (serving (victim_of s)) w)) steps
AnswerSteps s Nothing steps =
    Three (Read (s.n + 2) (λ w. Unit {0})) (Read (s.number + 1) (Is (emptied (victim_of s))))
    (Step (s.number + 1) (Is (emptied (victim_of s))) (Is resting)) steps
    ⊎ Two (Read (s.n + 2) (λ w. has_bit w (victim_of s) ≡ true)) (Step (s.number + 1) (Is (asking (victim_of s))) (Is resting)) steps
AnswerSteps s (Work batch) steps =
    Four (Read (s.n + 2) (λ w. Unit {0})) (Read (s.number + 1) (Is (full (victim_of s))))
    (Step (s.number + 1) (Is (full (victim_of s))) (Is (fetching (victim_of s)))) (Step (s.number + 1) (Is (fetching (victim_of s))) (Is resting)) steps

-- the mailboxes of the first k ranks but this one, in order
abbrev pub others_below : ℕ → ℕ → List ℕ
others_below me zero = []
others_below me (suc r) = if r == me then others_below me r else others_below me r ++ (r + 1) ∷ []

-- each of these was read, and asked not this rank
abbrev pub NoneAsked : ℕ → ℕ → Steps
NoneAsked me k steps = (map (λ x. x.word) steps ≡ others_below me k) × All (λ x. (x.left ≡ x.found) × (sign x.found ≢ asking me)) steps

abbrev pub RequestSteps : Shown → Option ℕ → Steps
RequestSteps s None steps = NoneAsked s.number s.n steps
RequestSteps s (Some r) steps =
    (before : List Reading) × (x : Reading) × NoneAsked s.number r before × Step (r + 1) (Is (asking s.number)) (Is (serving s.number)) x
    × (steps ≡ before ++ x ∷ [])

abbrev pub GiveSteps : Shown → ℕ → Steps
GiveSteps s to = One (Step (to + 1) (Is (serving s.number)) (Is (full s.number)))

abbrev pub RefuseSteps : Shown → ℕ → Steps
RefuseSteps s to = One (Step (to + 1) (Is (serving s.number)) (Is (emptied s.number)))

-- the token, and the halt word after it, unless all is over
abbrev pub RingSteps : Shown → Ring → Steps
RingSteps s Elsewhere =
    Two (Read 0 (λ w. (is_at (token_read w) s.number ≡ false) × (is_over (token_read w) ≡ false))) (Read (s.n + 1) (λ w. w ≢ 1))
RingSteps s (Here colour) = Two (Read 0 (λ w. token_read w ≡ At s.number colour)) (Read (s.n + 1) (λ w. w ≢ 1))
RingSteps s Over = One (Read 0 (λ w. token_read w ≡ TokenOver))
RingSteps s Halted = Two (Read 0 (λ w. is_over (token_read w) ≡ false)) (Read (s.n + 1) (λ w. w ≡ 1))

-- the token was found so and left so
abbrev pub TokenSteps : Token → Token → Steps
TokenSteps found left = One (Step 0 (λ w. token_read w ≡ found) (λ w. token_read w ≡ left))

-- the halt word was set
abbrev pub HaltSteps : Shown → Steps
HaltSteps s = One (Step (s.n + 1) (λ w. Unit {0}) (λ w. w ≡ 1))

-- the bit of this rank was set in the word of the stops
abbrev pub StopSteps : Shown → Steps
StopSteps s = One (λ x. (x.word ≡ s.n + 2) × (x.left ≡ bit_or x.found (2 ^ s.number)))
