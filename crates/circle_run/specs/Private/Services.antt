-- A service while it goes on: the ranks being served, and the part left to share out. Our own.
use Rattle.std.specs.Prelude.{◌≡◌, ◌≢◌, ℕ, ◌+◌, ◌-◌, ◌*◌, ◌<◌, ◌≤◌, ◌⊎◌, ◌&&◌, ◌==◌, not, Bool, true, false, if◌then◌else◌, List, length, [], ◌∷◌}
use Rattle.std.specs.Prelude.{◌++◌, map, filter, take, replicate, slice_set, slice_index, Option, Some, None}
use Rattle.std.specs.List.{flat_map, range_with_len}
use Rattle.rand_pcg.specs.Lcg.{Lcg}
use Rattle.post_board.specs.Shown.{Strings, Shown, is_served}
use Rattle.post_board.specs.Told.{Told, place}
use Rattle.post_board.specs.Deeds.{event_of, Tells}
use Rattle.post_board.specs.Calls.{NoneAsks}
use Rattle.circle_run.specs.Balance.{Log}
use Rattle.circle_run.specs.Moves.{answer_of, events_of, served, lots, asks, TellsAll, batches_after, batches_after_all}
use Rattle.circle_run.specs.Books.{counted}
use Rattle.circle_run.specs.Private.Books.{Writes}
use Rattle.circle_run.specs.Ranks.{Knows}
use Rattle.circle_run.specs.declared.lots.Lot.{Lot}
use Rattle.circle_run.specs.declared.lots.Lot.TheVariants.{Same, ByLot}
use Rattle.circle_run.specs.declared.ranks.Rank.{Rank}

-- how many ranks are not being served
abbrev pub unserved : List Bool → ℕ
unserved [] = 0
unserved (true ∷ xs) = unserved xs
unserved (false ∷ xs) = 1 + unserved xs

-- the ranks that are being served are those of the list from place k on, below count, each once
pub record AsksOf (s : Shown) (asks : List ℕ) (k count : ℕ) : Type 0 where
  pub served : (j : ℕ) → k ≤ j → j < count → is_served s (slice_index asks j) ≡ true
  pub all : (r : ℕ) → is_served s r ≡ true → (j : ℕ) × (k ≤ j) × (j < count) × (slice_index asks j ≡ r)
  pub once : (i j : ℕ) → i < j → j < count → slice_index asks i ≢ slice_index asks j

-- if the board is told, each rank that asks this one is being served
abbrev pub Awaits : Shown → Option Told → Type 0
Awaits s None = Unit {0}
Awaits s (Some t) = NoneAsks s s.n t

abbrev pub is_asker : ℕ → Told → ℕ → Bool
is_asker me t r = not (r == me) && asks me (place t r).mail

abbrev pub askers_below : ℕ → Told → ℕ → List ℕ
askers_below me t k = filter (is_asker me t) (range_with_len 0 k)

-- if the board is told, those being served are all that ask of the ranks below some number, in order
pub record InOrder (me : ℕ) (s : Shown) (t : Told) (ranks : List ℕ) : Type 0 where
  pub upto : ℕ
  pub within : upto ≤ length t.places
  pub are : ranks ≡ askers_below me t upto
  pub below : (r : ℕ) → is_served s r ≡ true → r < upto
  pub all : (r : ℕ) → r < upto → is_asker me t r ≡ true → is_served s r ≡ true

abbrev pub InOrderIfTold : ℕ → Shown → Option Told → List ℕ → Type 0
InOrderIfTold me s None ranks = Unit {0}
InOrderIfTold me s (Some t) ranks = InOrder me s t ranks

-- the amounts that are still to come for k ranks, and the generator afterwards
abbrev pub amounts_of : Lot → ℕ → Lcg → List ℕ × Lcg
amounts_of (Same share) k from = (replicate k share, from)
amounts_of (ByLot left) k from = lots left k from

-- a queue of q strings has that much, and one string more
abbrev pub Fits : Lot → ℕ → ℕ → Type 0
Fits (Same share) k q = (k * share) + share ≤ q
Fits (ByLot left) k q = left < q

module _ {J S T P : Type 0} (log : J → Log) (shows : S → Shown) (tells : P → Option Told) (seats : P → S → Type 0) where
  -- so many requests were taken up, and nothing else was done
  pub record Taken (r : Rank J S T) (p : P) (r' : Rank J S T) (p' : P) (asks : List ℕ) (count : ℕ) : Type 0 where
    pub knows : Knows shows r'
    pub mine : seats p' r'.seat
    pub others : (other : S) → (shows other).number ≢ r.me → seats p other → seats p' other
    pub still : tells p ≡ None → p' ≡ p
    pub rest : r' ≡ record r { seat = r'.seat }
    pub here : (shows r'.seat).here ≡ (shows r.seat).here
    pub halted : (shows r'.seat).halted ≡ (shows r.seat).halted
    pub knows_halt : (shows r'.seat).knows_halt ≡ (shows r.seat).knows_halt
    pub batches : (shows r'.seat).batches ≡ (shows r.seat).batches
    pub told : tells p' ≡ tells p
    pub asked : AsksOf (shows r'.seat) asks 0 count
    pub order : InOrderIfTold r.me (shows r'.seat) (tells p') (take count asks)
    pub long : length asks ≡ 64
    pub total : count + unserved (shows r'.seat).serves ≡ r'.options.ranks

  -- the parts that a step of a service does not change, and the facts that hold again after it
  pub record ServesOn (r : Rank J S T) (p : P) (r' : Rank J S T) (p' : P) : Type 0 where
    pub knows : Knows shows r'
    pub mine : seats p' r'.seat
    pub others : (other : S) → (shows other).number ≢ r.me → seats p other → seats p' other
    pub still : tells p ≡ None → p' ≡ p
    pub me : r'.me ≡ r.me
    pub options : r'.options ≡ r.options
    pub sums_seat : r'.sums_seat ≡ r.sums_seat
    pub sums : r'.book.sums ≡ r.book.sums
    pub job : r'.job ≡ r.job
    pub ended : r'.ended ≡ r.ended
    pub stopped : r'.stopped ≡ r.stopped
    pub asked : r'.asked ≡ r.asked
    pub tried : r'.tried ≡ r.tried
    pub here : (shows r'.seat).here ≡ (shows r.seat).here
    pub halted : (shows r'.seat).halted ≡ (shows r.seat).halted
    pub knows_halt : (shows r'.seat).knows_halt ≡ (shows r.seat).knows_halt
    pub lost : r.book.lost ≡ true → r'.book.lost ≡ true
    pub awaits : Awaits (shows r'.seat) (tells p')

  -- so many of the oldest strings were given to this rank, or it was refused if that is none
  pub record Gave (to share : ℕ) (r : Rank J S T) (p : P) (r' : Rank J S T) (p' : P) : Type 0 where
    pub batch : Strings
    pub amount : length batch ≡ share
    pub oldest : r.queue ≡ batch ++ r'.queue
    pub batches : (shows r'.seat).batches ≡ batches_after (answer_of (to, batch)) (shows r.seat).batches
    pub told : Tells r.me (answer_of (to, batch)) (tells p) (tells p')
    pub writes : Writes r.options.trace (event_of r.me (answer_of (to, batch)) ∷ []) r.book r'.book

  pub record Answered (to share : ℕ) (r : Rank J S T) (p : P) (r' : Rank J S T) (p' : P) : Type 0 where
    pub on : ServesOn r p r' p'
    pub draws : r'.draws ≡ r.draws
    pub serves : (shows r'.seat).serves ≡ slice_set (shows r.seat).serves to false
    pub went : r'.book.lost ≡ false → (share ≡ 0) ⊎ (share < length r.queue) → Gave to share r p r' p'

  -- the first k of these ranks have their answers
  pub record SoFar (r : Rank J S T) (p : P) (r' : Rank J S T) (p' : P) (ranks : List ℕ) (lot lot' : Lot) (count rest : ℕ) : Type 0 where
    pub had : r.book.lost ≡ false
    pub answers : List (ℕ × Strings)
    pub are : map (λ x. x.0) answers ≡ ranks
    pub shares : (amounts_of lot count r.draws).0 ≡ map (λ x. length x.1) answers ++ (amounts_of lot' rest r'.draws).0
    pub drawn : (amounts_of lot count r.draws).1 ≡ (amounts_of lot' rest r'.draws).1
    pub fits : Fits lot' rest (length r'.queue)
    pub oldest : r.queue ≡ flat_map (λ x. x.1) answers ++ r'.queue
    pub batches : (shows r'.seat).batches ≡ batches_after_all (map answer_of answers) (shows r.seat).batches
    pub told : TellsAll r.me (map answer_of answers) (tells p) (tells p')
    pub kept : r'.book.events.items ≡ r.book.events.items ++ (if r.options.trace then events_of r.me (served answers) else [])
    pub share : r'.book.share ≡ counted (events_of r.me (served answers)) r.book.share

  -- of the requests taken up those from k on are still to be answered
  pub record Serving (r : Rank J S T) (p : P) (r' : Rank J S T) (p' : P) (asks : List ℕ) (lot lot' : Lot) (k count : ℕ) : Type 0 where
    pub on : ServesOn r p r' p'
    pub left : AsksOf (shows r'.seat) asks k count
    pub went : r'.book.lost ≡ false → SoFar r p r' p' (take k asks) lot lot' count (count - k)
