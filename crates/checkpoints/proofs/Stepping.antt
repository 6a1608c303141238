-- A list of which the next entry is at hand: what is passed and what is ahead after a step.
use Rattle.checkpoints.proofs.Prelude.{◌≡◌, ℕ, ◌+◌, ◌-◌, ◌<◌, ◌≤◌, Bool, true, false, not, List, [], ◌∷◌, ◌++◌, length, take, drop, None, refl, ap, sym, ◌∙◌}
use Rattle.checkpoints.proofs.Prelude.{arith, append_assoc, nat_tests, drop_more, drop_all, take_more, take_all, Entry, Stepped, passed_of, ahead_of, moved}
use Rattle.entry_pages.specs.declared.entries.Mark.TheVariants as mark

no_entry : Entry
no_entry = record { path = []; stat = None; mark = mark.Fine; unnamed = 0; far = 0; target = None }

moved_at : (n : ℕ) (es : List Entry) → n < length es → moved (take n es) (drop n es) ≡ (take (n + 1) es, drop (n + 1) es)
moved_at n es l =
    ap (moved (take n es)) (drop_more es n no_entry l)
    ∙ ap (λ (p : List Entry). (p, drop (n + 1) es)) (sym (take_more es n no_entry l))

abbrev pub seen : Bool → List Entry × ℕ → List Entry × List Entry
seen b c = (passed_of b c, ahead_of b c)

stands : {old new : List Entry × ℕ} {more : Bool} → Stepped old new more →
    seen (not more) new ≡ (take old.1 old.0, drop old.1 old.0)
stands {old = old} {more = true} s =
    let one : old.1 + 1 - 1 ≡ old.1 = omega arith in
    ap (seen false) s.passed ∙ ap (λ (n : ℕ). (take n old.0, drop n old.0)) one
stands {old = old} {more = false} s =
    let over : length old.0 ≤ old.1 = grind (arith, nat_tests, s.answer) in
    ap (seen true) s.passed
    ∙ (λ i. (sym (take_all old.1 old.0 over) i, sym (drop_all old.1 old.0 over) i))

-- the step passes the next entry
pub stepped : {old new : List Entry × ℕ} {more : Bool} → 0 < old.1 → old.1 ≤ length old.0 → Stepped old new more →
    seen (not more) new ≡ moved (passed_of false old) (ahead_of false old)
stepped {old = old} some inside s =
    let before : old.1 - 1 < length old.0 = omega arith in
    let next : old.1 - 1 + 1 ≡ old.1 = omega arith in
    stands s ∙ sym (moved_at (old.1 - 1) old.0 before ∙ ap (λ (n : ℕ). (take n old.0, drop n old.0)) next)

pub moved_all : (passed ahead : List Entry) → (moved passed ahead).0 ++ (moved passed ahead).1 ≡ passed ++ ahead
moved_all passed [] = refl
moved_all passed (e ∷ ahead) = append_assoc passed (e ∷ []) ahead
