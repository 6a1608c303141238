use Rattle.flat_list.proofs.Prelude.{◌≡◌, ◌∙◌, ℕ, arith, refl, ap, sym, subst, take, List, [], ◌∷◌, ◌++◌, of_calls, CalledAt, called_at, take_all, Entry}
use Rattle.flat_list.proofs.Dealt.{taken}
use Rattle.flat_list.proofs.Retained.{Kept, kept_none, kept_more, kept_all}
use Rattle.flat_list.proofs.Turns.{passes, turn_at, of_list, one_on, inside, no_more}
use Rattle.flat_list.proofs.lists.FlatList.kept.Goals as goal

pub loop-cursor-init : goal.loop-cursor-init
loop-cursor-init g c =
    let R = CalledAt g.F.FnMut in
    let xs = c.args.self.now in
    let keep = c.args.keep in
    let none : [] ≡ take c.in_ok-cursor.cursor.1 xs = sym (ap (λ (v : List Entry × ℕ). take v.1 xs) c.in_ok-cursor.ensures) in
    record {
      callable = c.requires;
      of_list = ap (λ (v : List Entry × ℕ). v.0) c.in_ok-cursor.ensures;
      inside = omega (arith, ap (λ (v : List Entry × ℕ). v.1) c.in_ok-cursor.ensures);
      so_far = subst (λ (ys : List Entry). Kept R keep keep ys c.make-kept.result) none
          (subst (λ (ys : List Entry). Kept R keep keep [] ys) (sym c.make-kept.ensures) (kept_none R keep));
    }

pub loop-cursor-preserved : goal.loop-cursor-preserved
loop-cursor-preserved g c =
    let R = CalledAt g.F.FnMut in
    let xs = c.args.self.now in
    let keep = c.args.keep in
    let test = c.test-wanted.new.self in
    let e = c.entry-entry.result.now in
    let p = passes xs c.loop-cursor.cursor c.advance.new.self c.in_ok-advance.field-0 e c.loop-cursor.invariant.of_list
    c.if-branch.true c.in_ok-advance.ensures.passed c.entry-entry.ensures.at in
    let more : take c.loop-cursor.cursor.1 xs ++ e ∷ [] ≡ take c.advance.new.self.1 xs =
    sym (taken xs c.loop-cursor.cursor.1 e (turn_at _ refl p)) ∙ ap (λ n. take n xs) (one_on p) in
    record {
      callable = search of_calls;
      of_list = of_list p;
      inside = inside p;
      so_far = subst (λ (ys : List Entry). Kept R keep test ys c.add_if.new.self) more
          (subst (λ (zs : List Entry). Kept R keep test (take c.loop-cursor.cursor.1 xs ++ e ∷ []) zs) (sym c.in_ok-add_if.ensures)
          (kept_more R keep c.loop-cursor.test test (take c.loop-cursor.cursor.1 xs) c.loop-cursor.kept c.test-wanted.result e
          c.loop-cursor.invariant.so_far (called_at g.F.FnMut c.test-wanted.ensures refl)));
    }

pub returns : goal.returns
returns g c =
    let R = CalledAt g.F.FnMut in
    let xs = c.args.self.now in
    let over = no_more xs c.loop-cursor.cursor c.in_ok-advance.field-0 c.loop-cursor.invariant.of_list
    c.in_ok-advance.ensures.answer c.if-branch.false in
    kept_all R c.args.keep c.loop-cursor.test xs c.loop-cursor.kept
    (subst (λ (ys : List Entry). Kept R c.args.keep c.loop-cursor.test ys c.loop-cursor.kept) (take_all c.loop-cursor.cursor.1 xs over)
    c.loop-cursor.invariant.so_far)
