-- How the ranks of a run begin, and the result of a run. Our own.
use Rattle.std.specs.Prelude.{◌≡◌, ℕ, ◌-◌, ◌^◌, ◌<◌, ◌≤◌, ◌⊎◌, min, true, false, List, length, [], map, sum_by, slice_index_or, All, None, IfSome}
use Rattle.std.specs.List.{flat_map, range_with_len, Any}
use Rattle.post_board.specs.Shown.{Strings}
use Rattle.circle_run.specs.Balance.{Log, Balanced}
use Rattle.circle_run.specs.Left.{all_left}
use Rattle.circle_run.specs.Ready.{IsNew}
use Rattle.circle_run.specs.Traced.{IsTraced, WasRun, share_in, IsProgress}
use Rattle.circle_run.specs.declared.settings.Options.{Options}
use Rattle.circle_run.specs.declared.outcomes.Finished.{Finished}
use Rattle.circle_run.specs.declared.parts.Parts.{Parts}
use Rattle.circle_run.specs.declared.ranks.Rank.{Rank}

module _ {J S T : Type 0} where
  -- ranks that have done nothing, of these jobs, seats and queues in order
  pub record AreNew (log : J → Log) (o : Options) (jobs : List J) (seats : List S) (sums_seats : List T) (queues : List Strings)
      (ranks : List (Rank J S T)) : Type 0 where
    pub jobs_are : map (λ r. r.job) ranks ≡ jobs
    pub seats_are : map (λ r. r.seat) ranks ≡ seats
    pub sums_are : map (λ r. r.sums_seat) ranks ≡ sums_seats
    pub queues_are : map (λ r. r.queue) ranks ≡ queues
    pub new : (k : ℕ) (d : Rank J S T) → k < length ranks → let r = slice_index_or ranks k d in IsNew r.job r.seat r.sums_seat r.queue o k r
    pub unused : (k : ℕ) (d : Rank J S T) → k < length ranks → log (slice_index_or ranks k d).job ≡ []

  -- the parts of these ranks, by rank
  pub record ArePartsOf (ranks : List (Rank J S T)) (parts : Parts J S T) : Type 0 where
    pub seats : parts.seats.items ≡ map (λ r. r.seat) ranks
    pub sums_seats : parts.sums_seats.items ≡ map (λ r. r.sums_seat) ranks
    pub jobs : parts.finished.jobs.items ≡ map (λ r. r.job) ranks
    pub left : map (λ l. l.items) parts.finished.left.items ≡ map (λ r. r.queue) ranks
    pub shares : parts.finished.shares.items ≡ map (λ r. r.book.share) ranks
    pub events : parts.finished.events.items ≡ []
    pub numbers : parts.finished.sums.items ≡ flat_map (λ r. r.book.sums.items) ranks

module _ {J D : Type 0} (log : J → Log) (plain : J → D) where
  -- the result of a whole run of these starts and jobs
  pub record IsOutcome (o : Options) (starts : Strings) (jobs : List J) (f : Finished J) : Type 0 where
    pub balance : Balanced (flat_map log f.jobs.items) (all_left f.left.items) starts
    pub whole : o.stop_after ≡ None → all_left f.left.items ≡ []
    -- with a stop no rank handled more, and only a rank that handled as many leaves strings
    pub stop : IfSome o.stop_after (λ k. All (λ job. length (log job) ≤ k) f.jobs.items)
    pub left : IfSome o.stop_after (λ k. (all_left f.left.items ≡ []) ⊎ Any (λ job. length (log job) ≡ k) f.jobs.items)
    pub jobs_count : length f.jobs.items ≡ length jobs
    pub facts : map plain f.jobs.items ≡ map plain jobs
    pub lists : length f.left.items ≡ length jobs
    pub handled : map (λ s. s.handled) f.shares.items ≡ map (λ job. min (length (log job)) (2 ^ 64 - 1)) f.jobs.items
    pub moved : min (sum_by (λ s. s.given) f.shares.items) (2 ^ 128 - 1) ≡ min (sum_by (λ s. s.taken) f.shares.items) (2 ^ 128 - 1)
    pub untraced : o.trace ≡ false → f.events.items ≡ []
    pub progress : IsProgress (map (λ job. length (log job)) f.jobs.items) f.sums.items

module _ {J : Type 0} (log : J → Log) where
  -- further results of a whole run on one host, which stops after no number
  pub record IsRun (o : Options) (starts : Strings) (f : Finished J) : Type 0 where
    pub traced : o.trace ≡ true → IsTraced o starts (map log f.jobs.items) f.events.items
    pub counts : o.trace ≡ true → f.shares.items ≡ map (share_in f.events.items) (range_with_len 0 o.ranks)
    pub ran : WasRun o starts (map log f.jobs.items) f.shares.items f.events.items
