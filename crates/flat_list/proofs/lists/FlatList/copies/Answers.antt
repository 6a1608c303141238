use Rattle.flat_list.proofs.Prelude.{◌++◌, ◌∷◌, [], ◌∙◌, refl, ap, sym, take, List, Entry, take_all}
use Rattle.flat_list.proofs.Dealt.{taken}
use Rattle.flat_list.proofs.Turns.{passes, turn_at, of_list, one_on, inside, no_more}
use Rattle.flat_list.proofs.lists.FlatList.copies.Goals as goal

pub loop-cursor-preserved : goal.loop-cursor-preserved
loop-cursor-preserved c =
    let xs = c.args.self.now in
    let old = c.loop-cursor.entries.items in
    let e = c.entry.result.now in
    let p = passes xs c.loop-cursor.cursor c.advance.new.self c.in_ok-advance.field-0 e c.loop-cursor.invariant.of_list
    c.if-branch.true c.in_ok-advance.ensures.passed c.entry.ensures.at in
    record {
      of_list = of_list p;
      inside = inside p;
      so_far = c.in_ok-push.ensures.items ∙ ap (λ (x : Entry). old ++ x ∷ []) c.in_ok-copy.ensures
          ∙ ap (λ (ys : List Entry). ys ++ e ∷ []) c.loop-cursor.invariant.so_far
          ∙ sym (taken xs _ e (turn_at _ refl p)) ∙ ap (λ n. take n xs) (one_on p);
    }

pub returns : goal.returns
returns c =
    let over = no_more c.args.self.now c.loop-cursor.cursor c.in_ok-advance.field-0 c.loop-cursor.invariant.of_list
    c.in_ok-advance.ensures.answer c.if-branch.false in
    c.loop-cursor.invariant.so_far ∙ take_all c.loop-cursor.cursor.1 c.args.self.now over
