-- What comes of a pool while hosts are started and joined.
use Rattle.circle_run.proofs.Prelude.{◌≡◌, ℕ, ◌+◌, ◌≤◌, sym, subst, arith, List, [], ◌∷◌, ◌++◌, length, All, Vec, sum_by, Global, All-nil, All-cons, All-append}
use Rattle.circle_run.proofs.Prelude.{Shown, SumShown, Log, HostRan, IsOne, IsHost, AreDone, pooled_numbers, IsStarted, HasRoom, Pooled, Rank, Started, Pool}
use Rattle.circle_run.specs.Private.Pooled.{Fits}
use Rattle.circle_run.proofs.Places.{ones}
use Rattle.circle_run.proofs.Joined.{done_of, done_append}

module _ {J S T P Q : Type 0} where
  -- of a pool in which these still stand, and a host of them more fits
  pub fits_next : (whole ranks : List (Rank J S T)) (rest hosts : ℕ) (pool : Pool J S T P Q) → HasRoom (length whole) hosts pool
      → pooled_numbers (λ k. 1) pool + (sum_by (λ (r : Rank J S T). 1) ranks + rest) ≡ sum_by (λ (r : Rank J S T). 1) whole
      → length pool.started.items + 1 ≤ hosts → Fits (length ranks) pool
  fits_next whole ranks rest hosts pool room numbers few =
      let a = ones pool.mine.items in
      let b = ones pool.done.items in
      let c = ones ranks in
      let d = ones whole in
      let m = room.mine in
      let e = room.done in
      let s = room.started in
      record { mine = omega (arith, numbers, a, b, c, d, m, e); done = omega (arith, numbers, a, b, c, d, m, e); started = omega (arith, few, s) }

module _ {J S T P Q D : Type 0} (log : J → Log) (plain : J → D) (shows : S → Shown) (seats : P → S → Type 0)
    (sums_shows : T → SumShown) (sums_seats : Q → T → Type 0) where
  pub pooled_start : (whole : List (Rank J S T)) (p : P) (q : Q) (pool : Pool J S T P Q) (started : Vec (Started J S T P Q) Global)
      (host : Started J S T P Q) (ranks : List (Rank J S T))
      → Pooled log plain shows seats sums_shows sums_seats whole p q pool → IsHost whole ranks → host.before.value.items ≡ ranks
      → host.child.promise.1.value ≡ p → host.child.promise.2.value ≡ q
      → started.items ≡ pool.started.items ++ host ∷ [] → Pooled log plain shows seats sums_shows sums_seats whole p q (record pool { started = started })
  pooled_start whole p q pool started host ranks pooled ones before at counts is =
      let F = IsStarted whole p q in
      record {
        mine = pooled.mine;
        done = pooled.done;
        started = subst (All F) (sym is) (All-append F pool.started.items (host ∷ []) pooled.started
            (All-cons F host [] (record { at = at; counts = counts; host = subst (IsHost whole) (sym before) ones }) (All-nil F)));
      }

  pub pooled_mine : (whole : List (Rank J S T)) (p : P) (q : Q) (pool : Pool J S T P Q) (mine : Vec (Rank J S T) Global) (ranks back : List (Rank J S T))
      → Pooled log plain shows seats sums_shows sums_seats whole p q pool → IsHost whole ranks → back ≡ ranks → mine.items ≡ pool.mine.items ++ back
      → Pooled log plain shows seats sums_shows sums_seats whole p q (record pool { mine = mine })
  pooled_mine whole p q pool mine ranks back pooled host same is =
      let F = IsOne whole in
      record {
        mine = subst (All F) (sym is) (All-append F pool.mine.items back pooled.mine (subst (All F) (sym same) host.ones));
        done = pooled.done;
        started = pooled.started;
      }

  pub pooled_done : (whole : List (Rank J S T)) (p : P) (q : Q) (pool : Pool J S T P Q) (done : Vec (Rank J S T) Global) (ranks back : List (Rank J S T))
      → Pooled log plain shows seats sums_shows sums_seats whole p q pool → IsHost whole ranks
      → HostRan log plain shows seats sums_shows sums_seats p q ranks back → done.items ≡ pool.done.items ++ back
      → Pooled log plain shows seats sums_shows sums_seats whole p q (record pool { done = done })
  pooled_done whole p q pool done ranks back pooled host ran is =
      record {
        mine = pooled.mine;
        done = subst (AreDone log plain shows seats sums_shows sums_seats whole p q) (sym is)
            (done_append log plain shows seats sums_shows sums_seats whole p q pool.done.items back pooled.done
            (done_of log plain shows seats sums_shows sums_seats whole p q ranks back host.ones ran));
        started = pooled.started;
      }
