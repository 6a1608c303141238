-- A rank between two turns, and the result of a turn. Our own.
use Rattle.std.specs.Prelude.{◌≡◌, ℕ, ◌-◌, ◌^◌, ◌≤◌, ◌⊎◌, min, true, false, List, length, [], Option, Some, None, IfSome}
use Rattle.rank_queue.specs.Shares.{generator_of}
use Rattle.ring_core.specs.declared.states.Colour.TheVariants.{White}
use Rattle.post_board.specs.Shown.{Shown}
use Rattle.post_board.specs.Told.{Told}
use Rattle.post_board.specs.Shown.{Strings}
use Rattle.sum_tree.specs.Shown.{SumShown}
use Rattle.circle_run.specs.Balance.{Log}
use Rattle.circle_run.specs.Progress.{Progress, Counts}
use Rattle.circle_run.specs.Ranks.{Knows, ServesNone, Went}
use Rattle.circle_run.specs.Moves.{Move}
use Rattle.circle_run.specs.Turns.{IsTurn}
use Rattle.circle_run.specs.Choices.{is_done, Chooses}
use Rattle.circle_run.specs.declared.settings.Options.{Options}
use Rattle.circle_run.specs.declared.ranks.Rank.{Rank}
use Rattle.circle_run.specs.declared.ranks.Turn.{Turn}

-- a rank that has done nothing
pub record IsNew {J S T : Type 0} (job : J) (seat : S) (sums_seat : T) (queue : Strings) (options : Options) (me : ℕ) (r : Rank J S T) : Type 0 where
  pub same : r ≡ record {
    job = job;
    seat = seat;
    sums_seat = sums_seat;
    queue = queue;
    draws = generator_of options.seed me;
    me = me;
    options = options;
    colour = White;
    tried = false;
    asked = None;
    ended = false;
    stopped = false;
    book = r.book;
    fresh = [];
    alloc = r.alloc;
  }
  pub events : r.book.events.items ≡ []
  pub share : r.book.share ≡ record { handled = 0; given = 0; taken = 0 }
  pub sums : r.book.sums.items ≡ []
  pub lost : r.book.lost ≡ false

module _ {J S T Q : Type 0} (sums_shows : T → SumShown) (sums_seats : Q → T → Type 0) where
  -- a rank that handled so many strings, with its seat of the sums
  pub record SumsReady (strings : ℕ) (r : Rank J S T) (q : Q) : Type 0 where
    pub mine : sums_seats q r.sums_seat
    pub number : (sums_shows r.sums_seat).number ≡ r.me
    pub ranks : (sums_shows r.sums_seat).n ≡ r.options.ranks
    pub width : (sums_shows r.sums_seat).width ≡ r.options.width
    pub narrow : r.options.width ≤ 64
    pub counted : r.book.lost ≡ false → Counts strings (sums_shows r.sums_seat)
    pub progress : r.book.lost ≡ false → Progress r.me r.book.sums.items (sums_shows r.sums_seat)

module _ {J S T : Type 0} (log : J → Log) (shows : S → Shown) where
  -- a rank that counted its strings, of which a run that stops has set a number
  pub record Bounded (r : Rank J S T) : Type 0 where
    pub counted : r.book.share.handled ≡ min (length (log r.job)) (2 ^ 64 - 1)
    -- it handles no more
    pub most : IfSome r.options.stop_after (λ k. length (log r.job) ≤ k)
    -- it tells all to halt once it has handled as many
    pub halts : (shows r.seat).halted ≡ true → r.options.stop_after ≡ Some (length (log r.job))
    -- it stops only if it told all to halt, or knows that one did
    pub stops : r.stopped ≡ true → ((shows r.seat).halted ≡ true) ⊎ ((shows r.seat).knows_halt ≡ true)

module _ {J S T P Q : Type 0} (log : J → Log) (shows : S → Shown) (seats : P → S → Type 0) (sums_shows : T → SumShown) (sums_seats : Q → T → Type 0) where
  -- a rank between two turns. One that ran out of memory has no string
  pub record Ready (r : Rank J S T) (p : P) (q : Q) : Type 0 where
    pub knows : Knows shows r
    pub none : ServesNone shows r
    pub mine : seats p r.seat
    pub lost : r.book.lost ≡ true → r.queue ≡ []
    pub bounded : r.book.lost ≡ false → Bounded log shows r
    pub sums : SumsReady sums_shows sums_seats (length (log r.job)) r q

module _ {J S T P D : Type 0} (log : J → Log) (heard : J → Option (List ℕ)) (plain : J → D) (shows : S → Shown) (tells : P → Option Told)
    (seats : P → S → Type 0) where
  -- the moves of a turn: its result says which there are, and before the rank is done each is the first that applies
  pub record TurnMoves (turn : Turn) (r : Rank J S T) (p : P) (r' : Rank J S T) (moves : List Move) : Type 0 where
    pub kind : IsTurn (is_done r) turn moves
    pub chosen : is_done r ≡ false → Chooses heard shows tells r p r' moves

  -- the result of a turn. Unless the rank ran out of memory, it is moves of a turn, which were counted and, with a trace, kept
  pub record Turned (turn : Turn) (r : Rank J S T) (p : P) (r' : Rank J S T) (p' : P) : Type 0 where
    pub me : r'.me ≡ r.me
    pub options : r'.options ≡ r.options
    pub facts : plain r'.job ≡ plain r.job
    pub still : tells p ≡ None → p' ≡ p
    pub lost : r.book.lost ≡ true → r'.book.lost ≡ true
    pub went : r'.book.lost ≡ false → Went log plain shows tells seats (TurnMoves turn r p r') r p r' p'
