-- The evidence of the fates of both parts is that of all entries.
use Rattle.range_copy.proofs.Prelude.{◌≡◌, ℕ, Bool, List, map, ap, ◌∙◌, sym, subst, recursion_from_All, zip, Asks, Writes, Area, paths, Entry, Fate, HasCause}
use Rattle.range_copy.proofs.Prelude.{HaveCauses, treated, Pair, AreRows, large_of, marks_of, merged, small_of}
use Rattle.range_copy.proofs.Rows.{Row, Told, merged_rows, rows_told, told_rows}

module _ {R S G : Type 0} (asks : Asks R) (gives : Writes S) (own : Writes G) (area : G → Area) (count : G → ℕ) (list : List Entry) (pairs : List Pair)
    (piece : ℕ) where
  abbrev Cause : Entry → Fate → Type 0
  Cause e f = HasCause asks gives own area count pairs e f

  pub caused : (small large : List Entry) (marks : List Bool) (srows lrows rows : List Row) → small ≡ small_of piece list →
      large ≡ large_of piece list →
      marks ≡ marks_of piece list → map (λ row. row.0) srows ≡ paths (treated small) → HaveCauses asks gives own area count small pairs srows →
      AreRows Cause large lrows → rows ≡ merged marks srows lrows → HaveCauses asks gives own area count list pairs rows
  caused small large marks srows lrows rows s l m same slim wide is =
      let first = told_rows Cause (treated small) srows same
      (recursion_from_All (λ (one : Told). Cause one.0 one.1.1) (zip (treated small) srows) slim) in
      subst (HaveCauses asks gives own area count list pairs) (sym (is ∙ ap (λ ms. merged ms srows lrows) m))
      (rows_told Cause (treated list) (merged (marks_of piece list) srows lrows)
      (merged_rows Cause piece list srows lrows (subst (λ es. AreRows Cause (treated es) srows) s first) (subst (λ es. AreRows Cause es lrows) l wide)))
