-- The moves of one rank, one after the other, and the effect of each on its side: its queue, its log, the words that it draws, the
-- batches that its seat keeps, and its told board.
-- Handling, asking and giving are those of LaFon, Misra and Bringhurst, On Distributed File Tree Walk of Parallel File Systems (SC 2012),
-- the token is EWD840's; amounts, the order in a queue and the victims are our own.
use Rattle.std.specs.Prelude.{◌≡◌, ◌≢◌, ◌⊎◌, ℕ, zero, suc, ◌-◌, ◌<◌, ◌^◌, ◌==◌, ◌&&◌, Bool, true, false, not, if◌then◌else◌, min, All, List, length}
use Rattle.std.specs.Prelude.{[], ◌∷◌, ◌++◌, map, filter, replicate, Option, Some, None, IfSome}
use Rattle.std.specs.List.{flat_map, range_with_len}
use Rattle.rand_pcg.specs.Lcg.{Lcg}
use Rattle.rank_queue.specs.Shares.{word, after_word, equal_share, random_share, victim}
use Rattle.ring_core.specs.declared.events.Event.{Event}
use Rattle.ring_core.specs.declared.events.Event.TheVariants.{Handle, TakeNone}
use Rattle.post_board.specs.Shown.{Strings, Batches, with_given, with_taken}
use Rattle.post_board.specs.Told.{Mail, asked, Told, place}
use Rattle.post_board.specs.Deeds.{Deed, ask, give, refuse, take, take_none, pass, restart, conclude, see_over, event_of, Acts, Tells}
use Rattle.post_board.specs.Deeds.{Late, withdraw, halt, stop, TellsLate}
use Rattle.circle_run.specs.Balance.{Log}
use Rattle.circle_run.specs.declared.settings.Split.{Split}
use Rattle.circle_run.specs.declared.settings.Split.TheVariants.{Equal, Random}
use Rattle.circle_run.specs.declared.settings.Options.{Options}

pub data Move : Type 0 where
  -- handles its newest string, for which these were pushed
  handled : List ℕ → Strings → Move
  -- answers all ranks that ask it, each by the strings that it gets; none is a refusal
  served : List (ℕ × Strings) → Move
  -- asks, takes the answer, or moves the token
  did : Deed → Move
  -- takes its request back from a rank that has stopped, tells all to halt, or stops
  noted : Late → Move

pub record Side : Type 0 where
  -- oldest first
  pub queue : Strings
  pub log : Log
  -- the generator of its words
  pub draws : Lcg
  pub batches : Option Batches
  pub told : Option Told

abbrev pub answer_of : ℕ × Strings → Deed
answer_of x = if length x.1 == 0 then refuse x.0 else give x.0 x.1

-- a request that is taken back is kept as if it had been refused; a halt and a stop are not events
abbrev pub noted_of : ℕ → Late → List Event
noted_of me (withdraw from) = TakeNone me from ∷ []
noted_of me halt = []
noted_of me stop = []

-- the events that a move of the rank me is
abbrev pub events_of : ℕ → Move → List Event
events_of me (handled path kids) = Handle me path (length kids) ∷ []
events_of me (served answers) = map (λ x. event_of me (answer_of x)) answers
events_of me (did deed) = event_of me deed ∷ []
events_of me (noted late) = noted_of me late

-- at random: each gets some of the strings that the ones before it left, by a word each
abbrev pub lots : ℕ → ℕ → Lcg → List ℕ × Lcg
lots left zero from = ([], from)
lots left (suc r) from =
    let share : ℕ = random_share left (word from) in
    let rest : List ℕ × Lcg = lots (left - share) r (after_word from) in
    (share ∷ rest.0, rest.1)

-- the amounts for r ranks of a queue of q strings, and the generator afterwards; one string stays. Random amounts see at most 2^32 strings
abbrev pub amounts : Split → ℕ → ℕ → Lcg → List ℕ × Lcg
amounts Equal q r from = (replicate r (equal_share q r), from)
amounts Random q r from = if q == 0 then (replicate r 0, from) else lots (min q (2 ^ 32) - 1) r from

abbrev pub asks : ℕ → Mail → Bool
asks me (asked r) = r == me
asks me _ = false

-- the ranks that ask the rank me, in ascending order
abbrev pub askers : ℕ → Told → List ℕ
askers me t = filter (λ r. not (r == me) && asks me (place t r).mail) (range_with_len 0 (length t.places))

-- if the board is told, the rank me has not ended
abbrev pub IsLive : ℕ → Option Told → Type 0
IsLive me None = Unit {0}
IsLive me (Some t) = Acts me t

-- if the board is told, nobody asks the rank me
abbrev pub NobodyAsks : ℕ → Option Told → Type 0
NobodyAsks me None = Unit {0}
NobodyAsks me (Some t) = askers me t ≡ []

-- if the board is told, these are all that ask the rank me
abbrev pub AreAskers : ℕ → Option Told → List ℕ → Type 0
AreAskers me None ranks = Unit {0}
AreAskers me (Some t) ranks = ranks ≡ askers me t

-- one deed after the other
abbrev pub TellsAll : ℕ → List Deed → Option Told → Option Told → Type 0
TellsAll me [] before after = after ≡ before
TellsAll me (deed ∷ deeds) before after = (mid : Option Told) × Tells me deed before mid × TellsAll me deeds mid after

abbrev pub batches_after : Deed → Option Batches → Option Batches
batches_after (give to batch) b = with_given b to batch
batches_after (take from batch) b = with_taken b from batch
batches_after _ b = b

abbrev pub batches_after_all : List Deed → Option Batches → Option Batches
batches_after_all [] b = b
batches_after_all (deed ∷ deeds) b = batches_after_all deeds (batches_after deed b)

-- the effect of a deed on the queue. A rank asks and moves the token without a string; giving and refusing alone are not moves
abbrev pub Queues : Deed → Strings → Strings → Type 0
Queues (ask victim) q q' = (q ≡ []) × (q' ≡ [])
Queues (give to batch) q q' = ⊥
Queues (refuse to) q q' = ⊥
Queues (take from batch) q q' = q' ≡ q ++ batch
Queues (take_none from) q q' = q' ≡ q
Queues (pass colour) q q' = (q ≡ []) × (q' ≡ [])
Queues restart q q' = (q ≡ []) × (q' ≡ [])
Queues conclude q q' = (q ≡ []) × (q' ≡ [])
Queues see_over q q' = (q ≡ []) × (q' ≡ [])

-- the rank that it asks is drawn, and nothing else
abbrev pub Draws : ℕ → ℕ → Deed → Lcg → Lcg → Type 0
Draws n me (ask v) from from' = (v ≡ victim me n (word from)) × (from' ≡ after_word from)
Draws n me _ from from' = from' ≡ from

-- if the board is told, all are to halt
abbrev pub IsHalted : Option Told → Type 0
IsHalted None = Unit {0}
IsHalted (Some t) = t.halt ≡ true

-- the amounts of the split; or none, without a word, in a run that stops after some number, once all are to halt
abbrev pub IsShared : Options → Option Told → List (ℕ × Strings) → Strings → Lcg → Lcg → Type 0
IsShared o told answers q from from' =
    ((map (λ x. length x.1) answers ≡ (amounts o.split (length q) (length answers) from).0)
    × (from' ≡ (amounts o.split (length q) (length answers) from).1))
    ⊎ ((o.stop_after ≢ None) × IsHalted told × All (λ x. x.1 ≡ []) answers × (from' ≡ from))

-- a service: the oldest strings go to those that ask, in order
pub record Serves (o : Options) (me : ℕ) (answers : List (ℕ × Strings)) (s s' : Side) : Type 0 where
  pub ranks : AreAskers me s.told (map (λ x. x.0) answers)
  -- each is a rank
  pub names : All (λ x. x.0 < o.ranks) answers
  pub shares : IsShared o s.told answers s.queue s.draws s'.draws
  pub oldest : s.queue ≡ flat_map (λ x. x.1) answers ++ s'.queue
  pub log : s'.log ≡ s.log
  pub batches : s'.batches ≡ batches_after_all (map answer_of answers) s.batches
  pub told : TellsAll me (map answer_of answers) s.told s'.told

-- a rank that has handled so many strings may handle one more
abbrev pub MayHandle : Options → ℕ → Type 0
MayHandle o count = IfSome o.stop_after (λ k. count < k)

-- the newest string is handled, and the strings pushed for it are queued in order, while nobody asks
pub record Handles (o : Options) (me : ℕ) (path : List ℕ) (kids : Strings) (s s' : Side) : Type 0 where
  pub rest : Strings
  pub live : IsLive me s.told
  pub may : MayHandle o (length s.log)
  pub newest : s.queue ≡ rest ++ path ∷ []
  pub unasked : NobodyAsks me s.told
  pub few : length (rest ++ kids) < 2 ^ 64
  pub after : s' ≡ record s { queue = rest ++ kids; log = s.log ++ (path, kids) ∷ [] }

-- it takes from a rank
abbrev pub NamesRank : ℕ → Deed → Type 0
NamesRank n (take from batch) = from < n
NamesRank n _ = Unit {0}

pub record DoesDeed (o : Options) (me : ℕ) (deed : Deed) (s s' : Side) : Type 0 where
  pub queue : Queues deed s.queue s'.queue
  pub few : length s'.queue < 2 ^ 64
  pub names : NamesRank o.ranks deed
  pub drawn : Draws o.ranks me deed s.draws s'.draws
  pub log : s'.log ≡ s.log
  pub batches : s'.batches ≡ batches_after deed s.batches
  pub told : Tells me deed s.told s'.told

-- the condition: a rank that has handled its number of strings tells all to halt; one stops if all are to halt
abbrev pub MayNote : Options → Late → Side → Type 0
MayNote o (withdraw from) s = from < o.ranks
MayNote o halt s = o.stop_after ≡ Some (length s.log)
MayNote o stop s = IsHalted s.told

-- nothing of the rank changes
pub record DoesLate (o : Options) (me : ℕ) (late : Late) (s s' : Side) : Type 0 where
  pub may : MayNote o late s
  pub told : TellsLate me late s.told s'.told
  pub after : s' ≡ record s { told = s'.told }

abbrev pub Does : Options → ℕ → Move → Side → Side → Type 0
Does o me (handled path kids) s s' = Handles o me path kids s s'
Does o me (served answers) s s' = Serves o me answers s s'
Does o me (did deed) s s' = DoesDeed o me deed s s'
Does o me (noted late) s s' = DoesLate o me late s s'
