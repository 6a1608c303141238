-- Entries of which no failure is counted name nothing.
use Rattle.run_entries.proofs.Prelude.{◌≡◌, ◌∙◌, ℕ, ◌+◌, cond, List, [], ◌∷◌, ◌++◌, map, refl, sym, ap, subst, false, arith, AllByRecursion, sum_by}
use Rattle.run_entries.proofs.Prelude.{sum_by-cons, Entry, Mark, mark_notes, note_count, summary_of, AreInOrder, on_side, failures_in}
use Rattle.std.proofs.Common.{◌==◌}
use Rattle.std.specs.List.Sorted.{IsStrictlySortedBy}
use Rattle.entry_pages.specs.declared.entries.Mark.TheVariants as mark
use Rattle.run_entries.proofs.Fine.{IsFine, no_notes}

fine_mark : (m : Mark) → mark_notes m ≡ 0 → m ≡ mark.Fine
fine_mark mark.Fine none = refl
fine_mark mark.StatFailed none = absurd (omega (arith, none))
fine_mark mark.ListFailed none = absurd (omega (arith, none))
fine_mark mark.Gone none = absurd (omega (arith, none))
fine_mark mark.Changed none = absurd (omega (arith, none))

fine_number : (k : ℕ) → ◌≡◌ {A = ℕ} (cond (k == 0) 0 1) 0 → k ≡ 0
fine_number k none = grind (arith, none)

fine_entry : (e : Entry) → note_count e ≡ 0 → IsFine e
fine_entry e none =
    (fine_mark e.mark (omega (arith, none)), fine_number e.unnamed (omega (arith, none)), fine_number e.far (omega (arith, none)))

all_fine : (entries : List Entry) → sum_by note_count entries ≡ 0 → AllByRecursion IsFine entries
all_fine [] none = tt
all_fine (e ∷ entries) none =
    let both : note_count e + sum_by note_count entries ≡ 0 = sym (sum_by-cons note_count e entries) ∙ none in
    (fine_entry e (omega (arith, both)), all_fine entries (omega (arith, both)))

none_in_order : AreInOrder [] []
unfolding IsStrictlySortedBy
none_in_order = record { ascend = tt; same = λ n. (λ h. h, λ h. h) }

pub nothing_failed : (entries : List Entry) → (summary_of entries).failed ≡ 0 → AreInOrder (failures_in [] entries) []
nothing_failed entries none =
    subst (λ given. AreInOrder given []) (sym (ap (λ notes. map (on_side false) notes ++ []) (no_notes entries (all_fine entries none)))) none_in_order
