-- The rule of sums over atomic words at every moment, between any two steps. Partial sums that are never too high are libcircle's
-- (SC 2012); the final mark is our own.
use Rattle.std.specs.Prelude.{◌≡◌, ℕ, ◌<◌, true, slice_index}
use mathlib.Core.Option.{some}
use lib.ListN.{get_elem?}
use Rattle.sum_tree.specs.Steps.{coded}
use Rattle.sum_tree.specs.Told.{SumTold, word_of, is_final, rank_of}
use Rattle.sum_tree.specs.TreeRule.{TableState, Rule, told_of, row_of}
use Rattle.sum_tree.specs.declared.tree_views.View.{View}

module _ (n width : ℕ) (s : TableState) (o : Rule n width s) where
  -- of each rank its count when it last wrote its word, and its word
  abbrev pub told_at : SumTold
  told_at = told_of n width o.known

  -- the words hold the told numbers
  abbrev pub WordsAreTold : Type 0
  WordsAreTold = (r : ℕ) → r < n → slice_index s.words r ≡ coded (word_of told_at r) (is_final told_at r)

  -- and the told count and word of a rank are those that its seat knows
  abbrev pub SeatsAreTold : Type 0
  SeatsAreTold = (k : ℕ) (v : View) → get_elem? s.views k ≡ some v → v.live ≡ true → rank_of told_at k ≡ row_of v.own
