-- The ranks of a pool, while hosts are started and joined. Our own.
use Rattle.std.specs.Prelude.{◌≡◌, ℕ, ◌+◌, ◌≤◌, List, length, All, vec_capacity}
use Rattle.std.specs.List.{sum_by}
use Rattle.post_board.specs.Shown.{Shown}
use Rattle.sum_tree.specs.Shown.{SumShown}
use Rattle.circle_run.specs.Balance.{Log}
use Rattle.circle_run.specs.Private.Away.{IsOne, IsHost, AreDone}
use Rattle.circle_run.specs.declared.ranks.Rank.{Rank}
use Rattle.circle_run.specs.declared.started.Started.{Started}
use Rattle.circle_run.specs.declared.pools.Pool.{Pool}

module _ {J S T P Q : Type 0} where
  -- the weight of the ranks' numbers together
  abbrev pub started_numbers : (ℕ → ℕ) → List (Started J S T P Q) → ℕ
  started_numbers h xs = sum_by (λ c. sum_by (λ r. h r.me) c.before.value.items) xs

  -- those that run here, those that are done and those of the hosts that were started
  abbrev pub pooled_numbers : (ℕ → ℕ) → Pool J S T P Q → ℕ
  pooled_numbers h pool = sum_by (λ r. h r.me) pool.mine.items + sum_by (λ r. h r.me) pool.done.items + started_numbers h pool.started.items

  -- a host of these ranks was started at this board and at these sums
  pub record IsStarted (whole : List (Rank J S T)) (p : P) (q : Q) (c : Started J S T P Q) : Type 0 where
    pub at : c.child.promise.1.value ≡ p
    pub counts : c.child.promise.2.value ≡ q
    pub host : IsHost whole c.before.value.items

  -- there is room for so many ranks and hosts
  pub record HasRoom (n hosts : ℕ) (pool : Pool J S T P Q) : Type 0 where
    pub mine : n ≤ vec_capacity pool.mine
    pub done : n ≤ vec_capacity pool.done
    pub started : hosts ≤ vec_capacity pool.started
    pub all : n ≤ vec_capacity pool.all

  -- there is room for so many ranks more, or for a host more
  pub record Fits (n : ℕ) (pool : Pool J S T P Q) : Type 0 where
    pub mine : length pool.mine.items + n ≤ vec_capacity pool.mine
    pub done : length pool.done.items + n ≤ vec_capacity pool.done
    pub started : length pool.started.items + 1 ≤ vec_capacity pool.started

module _ {J S T P Q D : Type 0} (log : J → Log) (plain : J → D) (shows : S → Shown) (seats : P → S → Type 0)
    (sums_shows : T → SumShown) (sums_seats : Q → T → Type 0) where
  -- each rank of the pool is one of these, as it was before or at its end
  pub record Pooled (whole : List (Rank J S T)) (p : P) (q : Q) (pool : Pool J S T P Q) : Type 0 where
    pub mine : All (IsOne whole) pool.mine.items
    pub done : AreDone log plain shows seats sums_shows sums_seats whole p q pool.done.items
    pub started : All (IsStarted whole p q) pool.started.items
