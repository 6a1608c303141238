-- A tree of ranks and the sums of its counts: the reduction of libcircle (LaFon, Misra, Bringhurst, SC 2012), in which each rank adds the
-- numbers of its children to its own count.
use Rattle.std.specs.Prelude.{ℕ, zero, suc, ◌+◌, ◌-◌, ◌*◌, List, min}
use Rattle.std.specs.List.{range_with_len, sum_by}

-- the children of rank r among n ranks: the ranks r * width + 1 to r * width + width that are below n
abbrev pub children : ℕ → ℕ → ℕ → List ℕ
children n width r = range_with_len (r * width + 1) (min width (n - (r * width + 1)))

-- the sum of rank r over the tree at most so many levels deep: its own count and the sums of its children
abbrev pub sum_down : ℕ → ℕ → (ℕ → ℕ) → ℕ → ℕ → ℕ
sum_down n width count zero r = 0
sum_down n width count (suc levels) r = count r + sum_by (sum_down n width count levels) (children n width r)

-- the sum of rank r: the counts of it and all below it. A child has a greater number, so no tree is deeper than the number of its ranks
unfoldable pub sum_of : ℕ → ℕ → (ℕ → ℕ) → ℕ → ℕ
sum_of n width count r = sum_down n width count n r
