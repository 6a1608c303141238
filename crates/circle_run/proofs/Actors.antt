-- Whose the events of moves are, and by which of them no string is handled.
use Rattle.circle_run.proofs.Prelude.{◌≡◌, ℕ, ◌≢◌, ◌⊎◌, inl, inr, refl, sym, ◌∙◌, false, List, [], ◌∷◌, ◌++◌, map, ne_eqb, Event, Handle, Strings, Deed, ask}
use Rattle.circle_run.proofs.Prelude.{give, refuse, take, take_none, pass, restart, conclude, see_over, event_of, withdraw, halt, stop, Move, handled, served}
use Rattle.circle_run.proofs.Prelude.{did, noted, answer_of, events_of, events_of_all, actor, handles, ComesBefore, moves_in}

-- the events are all of one rank
abbrev pub By : ℕ → List Event → Type 0
By r [] = Unit {0}
By r (event ∷ events) = (actor event ≡ r) × By r events

pub deed_by : (me : ℕ) (d : Deed) → actor (event_of me d) ≡ me
deed_by me (ask v) = refl
deed_by me (give to b) = refl
deed_by me (refuse to) = refl
deed_by me (take from b) = refl
deed_by me (take_none from) = refl
deed_by me (pass c) = refl
deed_by me restart = refl
deed_by me conclude = refl
deed_by me see_over = refl

pub answers_by : (me : ℕ) (answers : List (ℕ × Strings)) → By me (map (λ x. event_of me (answer_of x)) answers)
answers_by me [] = tt
answers_by me (x ∷ xs) = (deed_by me (answer_of x), answers_by me xs)

pub move_by : (me : ℕ) (m : Move) → By me (events_of me m)
move_by me (handled path kids) = (refl, tt)
move_by me (served answers) = answers_by me answers
move_by me (did d) = (deed_by me d, tt)
move_by me (noted (withdraw from)) = (refl, tt)
move_by me (noted halt) = tt
move_by me (noted stop) = tt

pub By-append : (r : ℕ) (xs ys : List Event) → By r xs → By r ys → By r (xs ++ ys)
By-append r [] ys first next = next
By-append r (x ∷ xs) ys (here, first) next = (here, By-append r xs ys first next)

pub turn_by : (r : ℕ) (turn : List Move) → By r (events_of_all (moves_in r turn))
turn_by r [] = tt
turn_by r (m ∷ turn) = By-append r (events_of r m) (events_of_all (moves_in r turn)) (move_by r m) (turn_by r turn)

-- an event of another rank is no string that r handles
pub other_handles : (r : ℕ) (event : Event) → actor event ≢ r → handles r event ≡ false
other_handles r (Handle rank path kids) ne = ne_eqb rank r ne
other_handles r _ ne = refl

pub comes_later : (s r a : ℕ) (xs ys : List Event) → By a xs → a ≢ r → ComesBefore s r ys → ComesBefore s r (xs ++ ys)
comes_later s r a [] ys by ne comes = comes
comes_later s r a (x ∷ xs) ys (here, by) ne comes = inr (other_handles r x (λ e. ne (sym here ∙ e)), comes_later s r a xs ys by ne comes)

pub comes_now : (s r : ℕ) (xs ys : List Event) → By s xs → ¬ (xs ≡ []) → ComesBefore s r (xs ++ ys)
comes_now s r [] ys by some = absurd (some refl)
comes_now s r (x ∷ xs) ys by some = inl by.0

-- nobody handles a string
abbrev pub NoHandle : List Event → Type 0
NoHandle [] = Unit {0}
NoHandle (event ∷ events) = ((r : ℕ) → handles r event ≡ false) × NoHandle events

pub NoHandle-append : (xs ys : List Event) → NoHandle xs → NoHandle ys → NoHandle (xs ++ ys)
NoHandle-append [] ys first next = next
NoHandle-append (x ∷ xs) ys (here, first) next = (here, NoHandle-append xs ys first next)

pub nil_or_some : (xs : List Event) → (xs ≡ []) ⊎ (¬ (xs ≡ []))
nil_or_some [] = inl refl
nil_or_some (x ∷ xs) = inr (λ e. cc)

pub never_again : (s r : ℕ) (xs : List Event) → NoHandle xs → ComesBefore s r xs
never_again s r [] none = tt
never_again s r (x ∷ xs) (here, none) = inr (here r, never_again s r xs none)

pub deed_handles : (me : ℕ) (d : Deed) (r : ℕ) → handles r (event_of me d) ≡ false
deed_handles me (ask v) r = refl
deed_handles me (give to b) r = refl
deed_handles me (refuse to) r = refl
deed_handles me (take from b) r = refl
deed_handles me (take_none from) r = refl
deed_handles me (pass c) r = refl
deed_handles me restart r = refl
deed_handles me conclude r = refl
deed_handles me see_over r = refl

pub answers_handle : (me : ℕ) (answers : List (ℕ × Strings)) → NoHandle (map (λ x. event_of me (answer_of x)) answers)
answers_handle me [] = tt
answers_handle me (x ∷ xs) = (deed_handles me (answer_of x), answers_handle me xs)
