-- The ranks of a run over several threads, as they begin, as they are spread and as they end. Our own.
use Rattle.std.specs.Prelude.{◌≡◌, ℕ, ◌<◌, List, [], length, slice_index_or, All, Some, None, Vec, ◌+◌}
use Rattle.rank_queue.specs.Shares.{generator_of}
use Rattle.post_board.specs.Shown.{Strings, Shown}
use Rattle.sum_tree.specs.Shown.{SumShown}
use Rattle.circle_run.specs.Balance.{Log}
use Rattle.circle_run.specs.Stages.{dealt_to}
use Rattle.circle_run.specs.Hosts.{AllReady, Alone, lone_side}
use Rattle.circle_run.specs.declared.settings.Options.{Options}
use Rattle.circle_run.specs.declared.ranks.Rank.{Rank}
use Rattle.post_board.specs.BoardSeats.{unused}
use Rattle.std.specs.List.{sum_by}
use Rattle.std.specs.declared.alloc.Global.{Global}
use Rattle.circle_run.specs.Private.Away.{InPlace, IsHost, EndOf, AreDone}

module _ {J S T P Q : Type 0} (log : J → Log) (shows : S → Shown) (seats : P → S → Type 0) (sums_shows : T → SumShown) (sums_seats : Q → T → Type 0) where
  -- ranks as they begin
  pub record Starting (o : Options) (starts : Strings) (whole : List (Rank J S T)) (p : P) (q : Q) : Type 0 where
    pub count : length whole ≡ o.ranks
    pub place : InPlace whole
    pub ready : AllReady log shows seats sums_shows sums_seats whole p q
    pub options : (k : ℕ) (d : Rank J S T) → k < length whole → (slice_index_or whole k d).options ≡ o
    pub unshared : (k : ℕ) (d : Rank J S T) → k < length whole → (slice_index_or whole k d).book.share ≡ record { handled = 0; given = 0; taken = 0 }
    pub sides : (k : ℕ) (d : Rank J S T) → k < length whole
        → lone_side log shows (slice_index_or whole k d)
        ≡ record {
          queue = dealt_to o.ranks starts k;
          log = [];
          draws = generator_of o.seed k;
          batches = Some (unused o.ranks);
          told = None;
        }

module _ {J S T P Q D : Type 0} (log : J → Log) (plain : J → D) (shows : S → Shown) (seats : P → S → Type 0)
    (sums_shows : T → SumShown) (sums_seats : Q → T → Type 0) where
  -- ranks at their end, in order
  pub record Ending (whole final : List (Rank J S T)) (p : P) (q : Q) : Type 0 where
    pub count : length final ≡ length whole
    pub place : InPlace final
    pub ends : All (EndOf log plain shows seats sums_shows sums_seats whole p q) final
    pub alone : All (λ (r : Rank J S T). Alone log shows (slice_index_or whole r.me r) r) final

module _ {J S T P Q : Type 0} (log : J → Log) (shows : S → Shown) (seats : P → S → Type 0) (sums_shows : T → SumShown) (sums_seats : Q → T → Type 0) where
  -- the ranks of a run, so many, are spread over the first host and the others, and there are as many flags as others
  pub record MaySpread (p : P) (q : Q) (whole mine : List (Rank J S T)) (others : List (Vec (Rank J S T) Global)) (flags count : ℕ) : Type 0 where
    pub placed : InPlace whole
    pub ready : AllReady log shows seats sums_shows sums_seats whole p q
    pub flags_are : flags ≡ length others
    pub count_is : count ≡ length whole
    pub mine_is : IsHost whole mine
    pub others_are : All (λ host. IsHost whole host.items) others
    pub numbers : (h : ℕ → ℕ) → sum_by (λ r. h r.me) mine + sum_by (λ host. sum_by (λ r. h r.me) host.items) others ≡ sum_by (λ r. h r.me) whole

module _ {J S T P Q D : Type 0} (log : J → Log) (plain : J → D) (shows : S → Shown) (seats : P → S → Type 0)
    (sums_shows : T → SumShown) (sums_seats : Q → T → Type 0) where
  -- all ranks of a run have come back, in whatever order
  pub record AllJoined (p : P) (q : Q) (whole ranks : List (Rank J S T)) : Type 0 where
    pub done : AreDone log plain shows seats sums_shows sums_seats whole p q ranks
    pub numbers : (h : ℕ → ℕ) → sum_by (λ r. h r.me) ranks ≡ sum_by (λ r. h r.me) whole
