use Rattle.entry_pages.proofs.Prelude.{◌≡◌, ◌∙◌, ℕ, ◌+◌, ◌-◌, ◌<◌, ap, sym, subst, refl, arith, length, take, drop, List, Some, slice_get, is_lt, path_cmp}
use Rattle.entry_pages.proofs.Prelude.{option_map, with_text, Entry, RisesAt}
use Rattle.entry_pages.proofs.Passed.{step, rises_next}
use Rattle.entry_pages.proofs.passing.Reader.falls.Goals as goal

pub slice_bounds-compare-end : goal.slice_bounds-compare-end
slice_bounds-compare-end c =
    omega (arith, (step (with_text c.next.result.0 (option_map (λ t. t.now) c.next.result.1)) c.self.invariant c.next.ensures.next).room)

pub slice_bounds-compare-count-2 : goal.slice_bounds-compare-count-2
slice_bounds-compare-count-2 c = omega (
  arith,
  (step (with_text c.next.result.0 (option_map (λ t. t.now) c.next.result.1)) c.self.invariant c.next.ensures.next).short,
  ap length (c.as_bytes-last.ensures.value ∙ c.text.ensures.text),
)

pub slice_bounds-compare-start-2 : goal.slice_bounds-compare-start-2
slice_bounds-compare-start-2 c = omega (
  arith,
  (step (with_text c.next.result.0 (option_map (λ t. t.now) c.next.result.1)) c.self.invariant c.next.ensures.next).short,
  ap length (c.as_bytes-last.ensures.value ∙ c.text.ensures.text),
)

pub returns : goal.returns
returns c falls =
    let h = (with_text c.next.result.0 (option_map (λ t. t.now) c.next.result.1)) in
    let held = c.self.inside.entry.path in
    let at = c.self.inside.at in
    let count : at + h.rest - at ≡ h.rest = omega arith in
    let last : c.as_bytes-last.result.now ≡ held = c.as_bytes-last.ensures.value ∙ c.text.ensures.text in
    let some = subst (λ (v : List Entry × ℕ × Entry). 0 < v.1) (sym c.self.view_is) c.requires.some in
    let before = subst (λ (v : List Entry × ℕ × Entry). slice_get v.0 (v.1 - 1) ≡ Some v.2) (sym c.self.view_is) c.requires.last in
    let rest = take (at + h.rest - at) (drop at c.self.inside.rests.now) in
    let stands = ap (λ (l : List ℕ). is_lt (path_cmp rest (take (length l - h.shared) (drop h.shared l)))) (sym last)
    ∙ ap is_lt (sym c.compare.ensures) ∙ sym c.is_lt.ensures ∙ falls in
    subst (λ (v : List Entry × ℕ × Entry). RisesAt v.0 (v.1 - 1)) c.self.view_is
    (rises_next h _ _ c.self.inside.entry count refl c.self.invariant c.next.ensures.next refl some before stands)
