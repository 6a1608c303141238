use Rattle.flat_list.proofs.Prelude.{rules, ◌≡◌, ◌∙◌, ◌++◌, ◌∷◌, [], refl, ap, sym, subst, take, List, ℕ, IsPermutation, take_all, append-nil}
use Rattle.flat_list.proofs.Prelude.{IsPermutation-trans, Entry, all_of}
use Rattle.flat_list.proofs.Dealt.{taken}
use Rattle.flat_list.proofs.Merged.{same}
use Rattle.flat_list.proofs.Cuts.{one_behind}
use Rattle.flat_list.proofs.Turns.{passes, turn_at, of_list, one_on, inside, no_more}
use Rattle.flat_list.proofs.runs.Cut.read.Goals as goal

pub loop-cursor-init : goal.loop-cursor-init
loop-cursor-init c =
    let before = all_of c.args.self.now in
    record {
      of_list = ap (λ (v : List Entry × ℕ). v.0) c.in_ok-cursor.ensures;
      inside = search rules;
      moved = same _ _ (ap (λ (v : List Entry × ℕ). before ++ take v.1 c.args.log.now) c.in_ok-cursor.ensures ∙ append-nil before
          ∙ ap (λ (held : List Entry). held ++ c.args.self.now.waiting) (sym c.begin.ensures));
    }

pub loop-cursor-preserved : goal.loop-cursor-preserved
loop-cursor-preserved c =
    let xs = c.args.log.now in
    let e = c.entry.result.now in
    let p = passes xs c.loop-cursor.cursor c.advance.new.self c.in_ok-advance.field-0 e c.loop-cursor.invariant.of_list
    c.if-branch.true c.in_ok-advance.ensures.passed c.entry.ensures.at in
    let n = c.loop-cursor.cursor.1 in
    let before = all_of c.args.self.now in
    let passed : take n xs ++ e ∷ [] ≡ take c.advance.new.self.1 xs = sym (taken xs n e (turn_at n refl p)) ∙ ap (λ (k : ℕ). take k xs) (one_on p) in
    let one = one_behind before (take n xs) _ _ e c.loop-cursor.invariant.moved c.in_ok-put.ensures in
    record {
      of_list = of_list p;
      inside = inside p;
      moved = subst (λ (ys : List Entry). IsPermutation (before ++ ys) (all_of c.put.new.self)) passed one;
    }

pub returns : goal.returns
returns c =
    let xs = c.args.log.now in
    let over = no_more xs c.loop-cursor.cursor c.in_ok-advance.field-0 c.loop-cursor.invariant.of_list
    c.in_ok-advance.ensures.answer c.if-branch.false in
    let before = all_of c.args.self.now in
    let all = subst (λ (ys : List Entry). IsPermutation (before ++ ys) (all_of c.loop-cursor.self)) (take_all c.loop-cursor.cursor.1 xs over)
    c.loop-cursor.invariant.moved in
    IsPermutation-trans _ _ _ all c.in_ok-end.ensures.moved
