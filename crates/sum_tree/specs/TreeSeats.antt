-- Which seats are those of sums over atomic words, and the facts that they show. Our own.
use Rattle.std.specs.Prelude.{◌≡◌, ℕ, ◌+◌, ◌-◌, ◌≤◌, ◌<◌, ◌^◌, ◌==◌, true, if◌then◌else◌, List, [], length, slice_index_or, Option, Some, is_some, unwrap_or}
use Rattle.atomic_table.specs.Seated.{TableId}
use Rattle.sum_tree.specs.Shown.{SumShown}
use Rattle.sum_tree.specs.Plain.{fresh}
use Rattle.sum_tree.specs.TreeRule.{below}
use Rattle.sum_tree.specs.TreeSteps.{SeatState}
use Rattle.sum_tree.specs.declared.sum_trees.SumTree.{SumTree}
use Rattle.sum_tree.specs.declared.sum_trees.SumSeat.{SumSeat}

-- a count that was raised shows at once, and is in the word from the next refresh on
abbrev pub shown_by : SumSeat → SumShown
shown_by s =
    record {
      number = s.seat.me.0.own.number;
      n = s.seat.me.0.own.n;
      width = s.seat.me.0.own.width;
      count = s.count;
      word = s.seat.me.0.own.word;
      answer = s.answer;
    }

-- the seat of the rank me, in use
pub record Mine (t : SumTree) (id : TableId) (m : SeatState) (me : ℕ) : Type 0 where
  pub table : id ≡ t.table.shared.table_id
  pub number : m.0.own.number ≡ me
  pub sized : m.0.own.n ≡ t.n
  pub wide : m.0.own.width ≡ t.width
  pub inside : me < t.n
  pub live : m.0.live ≡ true

-- the seat is one of these sums
pub record IsSeat (t : SumTree) (s : SumSeat) : Type 0 where
  pub mine : Mine t s.seat.table_id s.seat.me s.number
  pub n : s.n ≡ t.n
  pub width : s.width ≡ t.width
  -- it has taken no other seat in
  pub alone : (s.seat.me.0.kept ≡ []) × (s.seat.me.1 ≡ [])
  pub long : length s.seat.me.0.own.seen ≡ t.n
  pub wide : length s.seat.me.0.own.finals ≡ t.n
  pub capped : s.count ≤ 2 ^ 56 - 1
  pub final : s.seat.me.0.own.is_final ≡ is_some s.answer
  -- the count of the last store is no more than the count, and equal to it once the word is final
  pub stored : s.seat.me.0.own.count ≤ s.count
  pub all_stored : s.seat.me.0.own.is_final ≡ true → s.seat.me.0.own.count ≡ s.count
  pub answered : (x : ℕ) → s.answer ≡ Some x → s.seat.me.0.own.word ≡ x
  -- the word is no more than the numbers that were counted and read before
  pub low : s.seat.me.0.own.word ≤ s.seat.me.0.own.count + below s.seat.me.0.own

-- the seat has read no word yet
abbrev pub IsUnread : SumSeat → Type 0
IsUnread s = s.seat.me.0.own.readings ≡ []

-- the seats of all n ranks, in ascending number, as they are at first
pub record AllFresh (t : SumTree) (n width : ℕ) (all : List SumSeat) : Type 0 where
  pub count : length all ≡ n
  pub each : (k : ℕ) (d : SumSeat) → k < n → IsSeat t (slice_index_or all k d) × (shown_by (slice_index_or all k d) ≡ fresh n width k)

-- the answer of rank 0, once its seat has come: that of this seat, if it is rank 0's, else the one that was known
abbrev pub first_answer : ℕ → Option ℕ → ℕ → ℕ
first_answer number answer known = if number == 0 then unwrap_or answer 0 else known
