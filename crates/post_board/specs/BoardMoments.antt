-- The rule of a board of atomic words at every moment, between any two steps, without the codes of words.
-- EWD840 (Dijkstra, Feijen, van Gasteren) proves of its ring that nothing is left at the end; the history of each two ranks is our own.
use Rattle.std.specs.Prelude.{◌≡◌, ℕ, ◌<◌, false, List, []}
use Rattle.post_board.specs.Shown.{Strings}
use Rattle.post_board.specs.Told.{Told}
use Rattle.post_board.specs.BoardRule.{TableState, Rule, told_of, signs_in, slots_in, token_in, on_way}

module _ (n : ℕ) (s : TableState) (o : Rule n s) where
  -- the picture, without the batches
  abbrev pub told_at : Told
  told_at = told_of n o.known (signs_in n s.words) (token_in s.words)

  -- the batches on the way from i to j
  abbrev pub on_way_at : ℕ → ℕ → List Strings
  on_way_at i j = on_way (signs_in n s.words j) i (slots_in s.homes j)

  -- no rank is busy, and no batch is on the way
  abbrev pub NothingLeft : Type 0
  NothingLeft = (r : ℕ) → r < n → ((o.known r).busy ≡ false) × ((i : ℕ) → on_way_at i r ≡ [])
