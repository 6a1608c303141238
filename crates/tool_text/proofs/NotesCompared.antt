-- The order of notes is a total order in which only equal notes tie.
use Rattle.tool_text.proofs.Prelude.{◌≡◌, ℕ, Bool, true, false, refl, sym, ◌∙◌, ◌==◌, if◌then◌else◌, IsTotalOrder, Equal-is, bool_cmp_total}
use Rattle.tool_text.proofs.Prelude.{nat_cmp-IsAntisymmetric, ordering_then, nat_cmp, bool_cmp, eq_by_cmp, Ordering, Less, Equal, Greater, on_total, then_total}
use Rattle.tool_text.proofs.Prelude.{nat_cmp_total, path_cmp, path_cmp_total, path_cmp_same, Why, Note, why_place, why_number, why_cmp, note_cmp}
use Rattle.tool_text.specs.declared.noting.Why.TheVariants as why

why_total : IsTotalOrder why_cmp
why_total = then_total (on_total why_place nat_cmp_total) (on_total why_number nat_cmp_total)

pub note_total : IsTotalOrder note_cmp
note_total = then_total (on_total (λ n. n.path) path_cmp_total) (then_total (on_total (λ n. n.dest) bool_cmp_total) (on_total (λ n. n.why) why_total))

both_equal : (r s : Ordering) → ordering_then r s ≡ Equal → (r ≡ Equal) × (s ≡ Equal)
both_equal Less s e = absurd (cc e)
both_equal Equal s e = (refl, e)
both_equal Greater s e = absurd (cc e)

-- the reason at a place, with a number
abbrev why_at : ℕ → ℕ → Why
why_at place k =
    if place == 0 then why.Gone
    else if place == 1 then why.FailedStat
    else if place == 2 then why.FailedNewer
    else if place == 3 then why.FailedList
    else if place == 4 then why.Changed
    else if place == 5 then why.Unnamed k
    else if place == 6 then why.TooLong k
    else if place == 7 then why.FailedRead
    else if place == 8 then why.FailedCopy
    else if place == 9 then why.Conflict
    else if place == 10 then why.Skipped
    else if place == 11 then why.Parent
    else if place == 12 then why.LongTarget
    else if place == 13 then why.FailedRemove
    else why.NotEmpty

why_again : (w : Why) → why_at (why_place w) (why_number w) ≡ w
why_again why.Gone = refl
why_again why.FailedStat = refl
why_again why.FailedNewer = refl
why_again why.FailedList = refl
why_again why.Changed = refl
why_again (why.Unnamed k) = refl
why_again (why.TooLong k) = refl
why_again why.FailedRead = refl
why_again why.FailedCopy = refl
why_again why.Conflict = refl
why_again why.Skipped = refl
why_again why.Parent = refl
why_again why.LongTarget = refl
why_again why.FailedRemove = refl
why_again why.NotEmpty = refl

why_same : (v w : Why) → why_cmp v w ≡ Equal → v ≡ w
why_same v w e =
    let parts = both_equal (nat_cmp (why_place v) (why_place w)) (nat_cmp (why_number v) (why_number w)) e in
    let place = nat_cmp-IsAntisymmetric (why_place v) (why_place w) parts.0 in
    let number = nat_cmp-IsAntisymmetric (why_number v) (why_number w) parts.1 in
    sym (why_again v) ∙ (λ i. why_at (place i) (number i)) ∙ why_again w

side_same : (a b : Bool) → bool_cmp a b ≡ Equal → a ≡ b
side_same false false e = refl
side_same false true e = absurd (cc e)
side_same true false e = absurd (cc e)
side_same true true e = refl

note_same : (a b : Note) → note_cmp a b ≡ Equal → a ≡ b
note_same a b e =
    let in_path = ordering_then (bool_cmp a.dest b.dest) (why_cmp a.why b.why) in
    let outer = both_equal (path_cmp a.path b.path) in_path e in
    let inner = both_equal (bool_cmp a.dest b.dest) (why_cmp a.why b.why) outer.1 in
    let path = path_cmp_same a.path b.path outer.0 in
    let reason = why_same a.why b.why inner.1 in
    let side = side_same a.dest b.dest inner.0 in
    λ i. record { path = path i; why = reason i; dest = side i }

pub only_same : (a b : Note) → eq_by_cmp note_cmp a b ≡ true → a ≡ b
only_same a b e = note_same a b ((Equal-is (note_cmp a b)).0 e)
