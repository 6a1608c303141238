-- What is left of a list that is read to its end.
use Rattle.flat_list.proofs.Prelude.{◌≡◌, ℕ, ◌+◌, ◌-◌, ◌<◌, ◌≤◌, Bool, true, false, List, [], ◌∷◌, ◌++◌, length, drop, ap, sym, ◌∙◌, arith, slice_get, nat_lt}
use Rattle.flat_list.proofs.Prelude.{if◌then◌else◌, nat_tests, drop_more, drop_all, append_assoc, get_or_from_slice_get, slice_get_within, Entry, left_of}
use Rattle.std.proofs.Common.{not}
use Rattle.std.specs.Prelude.{Some}

-- a cursor took a step, if there was one to take
pub record Stepped (old new : List Entry × ℕ) (more : Bool) : Type 0 where
  pub answer : more ≡ nat_lt old.1 (length old.0)
  pub passed : new ≡ (old.0, if more then old.1 + 1 else old.1)

-- behind the step the rest of the list is left
pub rest_left : {old new : List Entry × ℕ} {more : Bool} → Stepped old new more → left_of (not more) new ≡ drop old.1 old.0
rest_left {old = old} {more = true} s =
    let one : old.1 + 1 - 1 ≡ old.1 = omega arith in
    ap (left_of false) s.passed ∙ ap (λ (n : ℕ). drop n old.0) one
rest_left {old = old} {more = false} s =
    let over : length old.0 ≤ old.1 = grind (arith, nat_tests, s.answer) in
    sym (drop_all old.1 old.0 over)

-- what was left before it: the entry passed last, and the rest
pub entry_left : (c : List Entry × ℕ) (e : Entry) → 0 < c.1 → slice_get c.0 (c.1 - 1) ≡ Some e → left_of false c ≡ e ∷ drop c.1 c.0
entry_left c e some at =
    let lt = slice_get_within c.0 (c.1 - 1) e at in
    let next : c.1 - 1 + 1 ≡ c.1 = omega (arith, some) in
    drop_more c.0 (c.1 - 1) e lt ∙ ap (λ (x : Entry). x ∷ drop (c.1 - 1 + 1) c.0) (get_or_from_slice_get c.0 (c.1 - 1) e e at)
    ∙ ap (λ (n : ℕ). e ∷ drop n c.0) next

pub given : {c c' : List Entry × ℕ} {more : Bool} (all all' : List Entry) (e : Entry) → 0 < c.1 → slice_get c.0 (c.1 - 1) ≡ Some e →
    Stepped c c' more →
    all' ≡ all ++ e ∷ [] → all' ++ left_of (not more) c' ≡ all ++ left_of false c
given {c} {c'} {more} all all' e some at s put =
    ap (λ xs. xs ++ left_of (not more) c') put ∙ append_assoc all (e ∷ []) (left_of (not more) c')
    ∙ ap (λ xs. all ++ e ∷ xs) (rest_left s) ∙ ap (λ xs. all ++ xs) (sym (entry_left c e some at))
