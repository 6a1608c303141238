-- How many notes entries have.
use Rattle.tool_text.proofs.Prelude.{◌≡◌, ℕ, ◌+◌, false, List, [], ◌∷◌, ◌++◌, length, cond, refl, ap, ◌∙◌, arith, length-append, length-map, sum_by}
use Rattle.tool_text.proofs.Prelude.{length-flat_map, ◌==◌, Entry, Mark, note_count, mark_notes, Why, mark_whys, number_whys, whys_of, entry_notes, notes_of}
use Rattle.entry_pages.specs.declared.entries.Mark.TheVariants as mark
use Rattle.tool_text.specs.declared.noting.Why.TheVariants as why

by_mark : (m : Mark) → length (mark_whys m) ≡ mark_notes m
by_mark mark.Fine = refl
by_mark mark.StatFailed = refl
by_mark mark.ListFailed = refl
by_mark mark.Gone = refl
by_mark mark.Changed = refl

by_number : (name : ℕ → Why) (k : ℕ) → length (number_whys name k) ≡ cond (k == 0) 0 1
by_number name k = grind arith

of_entry : (e : Entry) → length (entry_notes e) ≡ note_count e
of_entry e =
    let unnamed = number_whys why.Unnamed e.unnamed in
    let far = number_whys why.TooLong e.far in
    length-map (whys_of e) (λ w. record { path = e.path; why = w; dest = false })
    ∙ length-append (mark_whys e.mark ++ unnamed) far
    ∙ ap (λ n. n + length far) (length-append (mark_whys e.mark) unnamed)
    ∙ (λ i. by_mark e.mark i + by_number why.Unnamed e.unnamed i + by_number why.TooLong e.far i)

-- as many as the summary says
pub length-notes_of : (entries : List Entry) → length (notes_of entries) ≡ sum_by note_count entries
length-notes_of entries = length-flat_map entry_notes entries ∙ (λ i. sum_by (λ e. of_entry e i) entries)

nothing : {A : Type 0} (xs : List A) → length xs ≡ 0 → [] ≡ xs
nothing [] e = refl
nothing (x ∷ xs) e = absurd (omega (arith, e))

-- where the summary says none, there are none
pub no_notes : (entries : List Entry) → sum_by note_count entries ≡ 0 → [] ≡ notes_of entries
no_notes entries none = nothing (notes_of entries) (length-notes_of entries ∙ none)
