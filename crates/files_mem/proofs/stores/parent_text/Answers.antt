use Rattle.files_mem.proofs.Prelude.{◌≡◌, ap, ◌∙◌, sym, arith, cond, eqb, take, ◌-◌, ◌∷◌, [], ℕ, List, nat_tests, rfind_char, parent_of}
use Rattle.files_mem.proofs.Parent.{parent_is}
use Rattle.files_mem.proofs.stores.parent_text.Goals as goal

pub returns-in-None : goal.returns-in-None
returns-in-None c =
    let is = parent_is c.text-text.result.now c.rfind.result (rfind_char 47 c.text-text.result.now c.rfind.result c.rfind.ensures.cases (omega arith)) in
    let there = rw c.in-None.is at is in
    sym (ap parent_of (sym c.text-text.ensures.text) ∙ there)

pub returns-in-Some-eq0 : goal.returns-in-Some-eq0
returns-in-Some-eq0 c =
    let is = parent_is c.text-text.result.now c.rfind.result (rfind_char 47 c.text-text.result.now c.rfind.result c.rfind.ensures.cases (omega arith)) in
    let there = rw c.in-Some-eq0.is at is in
    sym (ap parent_of (sym c.text-text.ensures.text) ∙ there ∙ ap (λ k. cond (eqb k 0) (47 ∷ []) (take k c.text-text.result.now)) c.in-Some-eq0.field-0-test)

pub returns-in-Some : goal.returns-in-Some
returns-in-Some c =
    let is = parent_is c.text-text.result.now c.rfind.result (rfind_char 47 c.text-text.result.now c.rfind.result c.rfind.ensures.cases (omega arith)) in
    let there = rw c.in-Some.is at is in
    c.range.ensures.value ∙ ap (λ m. take m c.text-text.result.now) (less_none c.in-Some.at)
    ∙ sym (ap parent_of (sym c.text-text.ensures.text) ∙ there
    ∙ not_zero c.in-Some.at (take c.in-Some.at c.text-text.result.now) c.in-Some.at-test.1)
  where
    less_none : (k : ℕ) → k - 0 ≡ k
    less_none k = omega arith

    not_zero : (k : ℕ) (xs : List ℕ) → (k ≡ 0 → ⊥) → cond (eqb k 0) (47 ∷ []) xs ≡ xs
    not_zero k xs h = grind (arith, nat_tests)
