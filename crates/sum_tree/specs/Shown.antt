-- The facts that a seat shows of its rank, whatever the sums are, and how each call changes them. Our own.
use Rattle.std.specs.Prelude.{◌≡◌, ℕ, ◌+◌, ◌*◌, ◌<◌, ◌≤◌, List, length, slice_index_or, Option, Some, None, is_some, IsSome}
use Rattle.std.specs.List.Sorted.{IsPermutation}
use Rattle.sum_tree.specs.Told.{SumTold, rank_of, Sound, raised_by}
use Rattle.sum_tree.specs.declared.ranks.RankSum.{RankSum}

pub record SumShown : Type 0 where
  pub number : ℕ
  -- how many ranks there are
  pub n : ℕ
  pub width : ℕ
  -- the rank's own count
  pub count : ℕ
  -- the number that the rank's word holds
  pub word : ℕ
  -- the final sum, once it was answered
  pub answer : Option ℕ

-- a rank without children
abbrev pub IsLeaf : SumShown → Type 0
IsLeaf s = s.n ≤ s.number * s.width + 1

abbrev pub raised : ℕ → SumShown → SumShown
raised k s = record s { count = raised_by k s.count }

abbrev pub refreshed : ℕ → SumShown → SumShown
refreshed word s = record s { word = word }

abbrev pub finished : Option ℕ → SumShown → SumShown
finished None s = s
finished (Some sum) s = record s { word = sum; answer = Some sum }

-- the told count and word of a rank whose seat shows this
abbrev pub rank_shown : SumShown → RankSum
rank_shown s = record { count = s.count; word = s.word; is_final = is_some s.answer }

-- the told facts are sound, and those of the seat's rank are the facts that the seat shows
pub record IsShown (t : SumTold) (s : SumShown) : Type 0 where
  pub sound : Sound t
  pub wide : s.width ≡ t.width
  pub sized : s.n ≡ length t.ranks
  pub inside : s.number < length t.ranks
  pub same : rank_of t s.number ≡ rank_shown s

abbrev pub Agrees : Option SumTold → SumShown → Type 0
Agrees None s = Unit {0}
Agrees (Some t) s = IsShown t s

module _ {S : Type 0} (shows : S → SumShown) (seats : S → Type 0) where
  -- the seats of all ranks by their numbers, each with its final sum
  abbrev pub ByNumber : List S → Type 0
  ByNumber ranks = (k : ℕ) (d : S) → k < length ranks → let s = slice_index_or ranks k d in
      seats s × ((shows s).number ≡ k) × ((shows s).n ≡ length ranks) × IsSome (shows s).answer

  -- the seats of all ranks, in any order, each with its final sum
  pub record AllFinished (all : List S) : Type 0 where
    pub ranks : List S
    pub by_number : ByNumber ranks
    pub same : IsPermutation ranks all
