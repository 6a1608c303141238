-- What is done names nothing, and where a count stood still nothing failed.
use Rattle.run_entries.proofs.Prelude.{◌≡◌, ℕ, List, [], ◌∷◌, ◌++◌, refl, arith, recursion_from_All, AllByRecursion, Fate, DoneNamesNothing, StillCounts}
use Rattle.run_entries.proofs.Prelude.{copy_notes, copy_whys, notes_by, removal_notes, removal_whys}
use Rattle.level_work.specs.declared.items.Fate.TheVariants as fate

abbrev Row : Type 0
Row = List ℕ × Fate

abbrev IsDone : Row → Type 0
IsDone row = row.1 ≡ fate.Done

no_copies : (rows : List Row) → AllByRecursion IsDone rows → copy_notes rows ≡ []
no_copies [] h = refl
no_copies (row ∷ rows) h = λ i. notes_by row.0 (copy_whys (h.0 i)) ++ no_copies rows h.1 i

no_removals : (rows : List Row) → AllByRecursion IsDone rows → removal_notes rows ≡ []
no_removals [] h = refl
no_removals (row ∷ rows) h = λ i. notes_by row.0 (removal_whys (h.0 i)) ++ no_removals rows h.1 i

pub done_names_nothing : DoneNamesNothing
done_names_nothing = record {
  copies = λ rows done. no_copies rows (recursion_from_All IsDone rows done);
  removals = λ rows done. no_removals rows (recursion_from_All IsDone rows done);
}

pub still_counts : StillCounts
still_counts = record {
  none = λ k old new rose stood. omega (arith, rose.rose, stood.same, stood.below_end);
  between = λ old from until new a b c stood.
      record { same = omega (arith, a, b, c, stood.same); below_end = omega (arith, a, b, c, stood.same, stood.below_end) };
}
