-- A file cut into consecutive ranges that cover it. Our own.
use Rattle.std.specs.Prelude.{◌≡◌, ℕ, zero, suc, ◌+◌, ◌-◌, ◌/◌, true, List, [], ◌∷◌, ◌++◌, length, take, drop}
use Rattle.std.specs.Prelude.{if◌then◌else◌, nat_lt}
use Rattle.outside.specs.Spans.{are_cuts}

-- how many bytes a range has: those of a piece, or as many as make 4,096 ranges of the file
abbrev pub least_step : ℕ → ℕ
least_step size = (size - 1) / 4096 + 1

abbrev pub step_of : ℕ → ℕ → ℕ
step_of size piece = if nat_lt piece (least_step size) then least_step size else piece

-- so many numbers from one on, each a step above the one before it
abbrev pub steps_from : ℕ → ℕ → ℕ → List ℕ
steps_from at step zero = []
steps_from at step (suc n) = at ∷ steps_from (at + step) step n

-- 0 and the multiples of the step below the size, and the size
abbrev pub range_cuts : ℕ → ℕ → List ℕ
range_cuts size step = steps_from 0 step (suc ((size - 1) / step)) ++ size ∷ []

-- the bytes from each cut to the next
abbrev pub ranges_from : ℕ → List ℕ → List ℕ → List (List ℕ)
ranges_from at [] bytes = []
ranges_from at (cut ∷ cuts) bytes = take (cut - at) (drop at bytes) ∷ ranges_from cut cuts bytes

abbrev pub ranges_of : List ℕ → List ℕ → List (List ℕ)
ranges_of [] bytes = []
ranges_of (first ∷ cuts) bytes = ranges_from first cuts bytes

-- one after the other
abbrev pub joined : List (List ℕ) → List ℕ
joined [] = []
joined (one ∷ rest) = one ++ joined rest

abbrev pub last_of : ℕ → List ℕ → ℕ
last_of at [] = at
last_of at (cut ∷ cuts) = last_of cut cuts

abbrev pub end_of : List ℕ → ℕ
end_of [] = 0
end_of (first ∷ cuts) = last_of first cuts

-- the ranges of a file that is cut from its start to its end, one after the other, are its bytes
abbrev pub RangesCover : Type 0
RangesCover = (cuts bytes : List ℕ) → are_cuts cuts ≡ true → end_of cuts ≡ length bytes → joined (ranges_of cuts bytes) ≡ bytes
