use Rattle.flat_list.proofs.Prelude.{◌≡◌, ◌+◌, ◌-◌, ◌≤◌, ◌∙◌, ℕ, arith, ap, subst, length, List, inl, inr, cases_lt, Entry, RisesAt}
use Rattle.flat_list.proofs.Turns.{no_more, step_more}
use Rattle.flat_list.proofs.lists.FlatList.ascends.Goals as goal

pub loop-cursor-init : goal.loop-cursor-init
loop-cursor-init c =
    let none : c.in_ok-cursor.cursor.1 ≡ 0 = ap (λ (v : List Entry × ℕ). v.1) c.in_ok-cursor.ensures in
    record {
      list = ap (λ (v : List Entry × ℕ). v.0) c.in_ok-cursor.ensures;
      inside = omega (arith, none);
      rises = λ k lt. absurd (omega (arith, lt, none));
    }

pub loop-cursor-preserved : goal.loop-cursor-preserved
loop-cursor-preserved c =
    let before = c.loop-cursor.invariant in
    let old = c.loop-cursor.cursor in
    let new = c.advance.new.self in
    let passed = c.in_ok-advance.ensures.passed in
    let list = ap (λ (v : List Entry × ℕ). v.0) passed ∙ before.list in
    let one : new.1 ≡ old.1 + 1 = step_more old new c.in_ok-advance.field-0 passed c.if-branch.true in
    let here : RisesAt c.args.self.now (new.1 - 1) = subst (λ (l : List Entry). RisesAt l (new.1 - 1)) list (c.falls.ensures c.if-falls.false) in
    record {
      list = list;
      inside = subst (λ (l : List Entry). new.1 ≤ length l) list c.in_ok-advance.ensures.inside;
      rises = λ k lt. elim (cases_lt k old.1) [
        | inl earlier ↦ before.rises k earlier
        | inr not_earlier ↦ subst (RisesAt c.args.self.now) (omega (arith, one, lt, not_earlier)) here
      ];
    }

pub returns : goal.returns
returns c is k d low high =
    let over = no_more c.args.self.now c.loop-cursor.cursor c.in_ok-advance.field-0 c.loop-cursor.invariant.list
    c.in_ok-advance.ensures.answer c.if-branch.false in
    c.loop-cursor.invariant.rises k (omega (arith, over, high)) d high
