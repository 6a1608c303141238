-- Sums that one thread keeps: when a seat is theirs, and how they begin. Our own.
use Rattle.std.specs.Prelude.{◌≡◌, ℕ, ◌+◌, ◌-◌, ◌≤◌, ◌^◌, List, length, map, replicate, None, IfSome}
use Rattle.std.specs.List.{range_with_len}
use Rattle.sum_tree.specs.Told.{SumTold, uncounted, count_of, word_of, words_below}
use Rattle.sum_tree.specs.Shown.{SumShown, IsShown}

-- between two calls there are at most 64 ranks, none has counted past 2^56 - 1, and a word holds at most the own count and the numbers in
-- the children's words
pub record Rule (t : SumTold) : Type 0 where
  pub wide : 2 ≤ t.width
  pub narrow : t.width ≤ 64
  pub few : length t.ranks ≤ 64
  pub capped : (r : ℕ) → count_of t r ≤ 2 ^ 56 - 1
  pub low : (r : ℕ) → word_of t r ≤ count_of t r + words_below t r

-- the seat is one of these sums
pub record IsSeat (t : SumTold) (s : SumShown) : Type 0 where
  pub rule : Rule t
  pub shown : IsShown t s
  pub answered : IfSome s.answer (λ sum. sum ≡ s.word)

-- n ranks that have counted nothing, and the seat of one
abbrev pub started : ℕ → ℕ → SumTold
started n width = record { width = width; ranks = replicate n uncounted }

abbrev pub fresh : ℕ → ℕ → ℕ → SumShown
fresh n width r = record { number = r; n = n; width = width; count = 0; word = 0; answer = None }

abbrev pub fresh_seats : ℕ → ℕ → List SumShown
fresh_seats n width = map (fresh n width) (range_with_len 0 n)
