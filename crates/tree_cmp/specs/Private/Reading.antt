-- Two files that are read and compared, piece by piece. Our own.
-- Only clauses of this crate's own functions cite this file.
use Rattle.std.specs.Prelude.{◌≡◌, ℕ, ◌+◌, ◌≤◌, Bool, true, false, List, length, take, drop, if◌then◌else◌, Option, nat_eq}
use Rattle.std.specs.Cmp.Lexicographic.{pointwise}
use Rattle.outside.specs.Asked.{Asks}
use Rattle.outside.specs.Tree.{Node, content}
use Rattle.tree_cmp.specs.declared.reading.Missing.TheVariants as m
use Rattle.tree_cmp.specs.declared.reading.Outcome.{Outcome}
use Rattle.tree_cmp.specs.declared.reading.Outcome.TheVariants as o
use Rattle.tree_cmp.specs.Filling.{IsShort, ShowsMissing}

-- how many faults an outcome was counted for
abbrev pub counts : Outcome → ℕ
counts (o.Same same) = 0
counts (o.Missed dest m.Failed) = 1
counts (o.Missed dest m.Changed) = 0

-- what reading two files of this size comes to
abbrev pub Told : Option Node → Option Node → Outcome → Type 0
Told a b (o.Same same) = same ≡ pointwise nat_eq (content a) (content b)
Told a b (o.Missed dest m.Failed) = Unit {0}
Told a b (o.Missed dest m.Changed) = ⊥

-- the same of a piece of so many bytes
abbrev pub PieceTold : Option Node → Option Node → ℕ → ℕ → Outcome → Type 0
PieceTold a b at n (o.Same same) = (at + n ≤ length (content a)) × (at + n ≤ length (content b))
    × (same ≡ pointwise nat_eq (take n (drop at (content a))) (take n (drop at (content b))))
PieceTold a b at n (o.Missed dest m.Failed) = Unit {0}
PieceTold a b at n (o.Missed false m.Changed) = IsShort a (at + n)
PieceTold a b at n (o.Missed true m.Changed) = IsShort b (at + n)

-- the file that an outcome names was asked for, and answered so
abbrev pub Shows : {S : Type 0} → Asks S → List ℕ → List ℕ → Outcome → Type 0
Shows gives left right (o.Same same) = Unit {0}
Shows gives left right (o.Missed dest why) = ShowsMissing gives (if dest then right else left) why

-- so far the bytes are the same
abbrev pub goes_on : Outcome → Bool
goes_on (o.Same same) = same
goes_on (o.Missed dest why) = false
