-- Names in one text.
use Rattle.std.specs.Prelude.{ℕ, ◌≤◌, ◌≡◌, List, [], ◌∷◌, length, slice_range}
use Rattle.std.specs.Str.{IsCharBoundary}

-- the names in the text after an index, each from the end of the one before it up to its own end
abbrev pub names_from : ℕ → List ℕ → List ℕ → List (List ℕ)
names_from start text [] = []
names_from start text (end ∷ ends) = slice_range text start end ∷ names_from end text ends

-- these are ends of names after the index: they ascend, the text may be cut at each, and it ends with the last of them
abbrev pub AreEndsFrom : ℕ → List ℕ → List ℕ → Type 0
AreEndsFrom start text [] = start ≡ length text
AreEndsFrom start text (end ∷ ends) = (start ≤ end) × (IsCharBoundary text end) × (AreEndsFrom end text ends)
