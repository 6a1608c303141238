-- The facts that sums may tell of each rank, and their truth at every moment. The sums are libcircle's (SC 2012); the final mark is our own.
use Rattle.std.specs.Prelude.{◌≡◌, ℕ, ◌+◌, ◌-◌, ◌≤◌, ◌^◌, Bool, true, false, List, length, slice_set, slice_index_or, min, Option, Some, None}
use Rattle.std.specs.List.{sum_by, list_all}
use Rattle.sum_tree.specs.Tree.{children, sum_of}
use Rattle.sum_tree.specs.declared.ranks.RankSum.{RankSum}

-- the ranks by their numbers, and how many children each may have
pub record SumTold : Type 0 where
  pub width : ℕ
  pub ranks : List RankSum

-- a rank that has counted nothing
abbrev pub uncounted : RankSum
uncounted = record { count = 0; word = 0; is_final = false }

-- the rank of this number, or one that has counted nothing if there is none
abbrev pub rank_of : SumTold → ℕ → RankSum
rank_of t r = slice_index_or t.ranks r uncounted

abbrev pub count_of : SumTold → ℕ → ℕ
count_of t r = (rank_of t r).count

abbrev pub word_of : SumTold → ℕ → ℕ
word_of t r = (rank_of t r).word

abbrev pub is_final : SumTold → ℕ → Bool
is_final t r = (rank_of t r).is_final

abbrev pub children_in : SumTold → ℕ → List ℕ
children_in t r = children (length t.ranks) t.width r

-- the counts of the rank and all below it, added up
abbrev pub sum_in : SumTold → ℕ → ℕ
sum_in t r = sum_of (length t.ranks) t.width (count_of t) r

-- the numbers in the words of the rank's children, together
abbrev pub words_below : SumTold → ℕ → ℕ
words_below t r = sum_by (word_of t) (children_in t r)

-- whether the words of all the rank's children are final
abbrev pub are_final_below : SumTold → ℕ → Bool
are_final_below t r = list_all (is_final t) (children_in t r)

-- partial sums: a word holds at most the sum of its rank; a final one holds exactly that, and those below it are final too
pub record Sound (t : SumTold) : Type 0 where
  pub at_most : (r : ℕ) → word_of t r ≤ sum_in t r
  pub exact : (r : ℕ) → is_final t r ≡ true → word_of t r ≡ sum_in t r
  pub below : (r : ℕ) → is_final t r ≡ true → are_final_below t r ≡ true

abbrev pub put_rank : SumTold → ℕ → RankSum → SumTold
put_rank t r x = record t { ranks = slice_set t.ranks r x }

-- a count that rises by k; counts stop at 2^56 - 1
abbrev pub raised_by : ℕ → ℕ → ℕ
raised_by k count = min (count + k) (2 ^ 56 - 1)

-- as it is once the rank's count has risen by k
abbrev pub told_raised : ℕ → ℕ → SumTold → SumTold
told_raised r k t = put_rank t r (record (rank_of t r) { count = raised_by k (count_of t r) })

-- as it is once the rank's word holds this number
abbrev pub told_refreshed : ℕ → ℕ → SumTold → SumTold
told_refreshed r word t = put_rank t r (record (rank_of t r) { word = word })

-- as it is once the rank was asked to finish: its word is this final sum, or nothing has changed
abbrev pub told_finished : ℕ → Option ℕ → SumTold → SumTold
told_finished r None t = t
told_finished r (Some sum) t = put_rank t r (record (rank_of t r) { word = sum; is_final = true })

-- a rank cannot finish exactly if a child's word is not final; else it finishes with its sum
abbrev pub Finishes : ℕ → Option ℕ → SumTold → Type 0
Finishes r None t = are_final_below t r ≡ false
Finishes r (Some sum) t = (are_final_below t r ≡ true) × (sum ≡ sum_in t r)
