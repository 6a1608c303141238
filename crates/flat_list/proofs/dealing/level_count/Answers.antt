use Rattle.flat_list.proofs.Prelude.{◌≡◌, ◌+◌, ap, refl, subst, ◌∙◌, max, take, level_count}
use Rattle.flat_list.proofs.Dealt.{count_kept, count_all}
use Rattle.flat_list.proofs.Turns.{passes, turn_at, of_list, one_on, inside, no_more}
use Rattle.flat_list.proofs.dealing.level_count.Goals as goal

pub loop-cursor-preserved : goal.loop-cursor-preserved
loop-cursor-preserved c =
    let xs = c.args.list.now in
    let p = passes xs c.loop-cursor.cursor c.advance.new.self c.in_ok-advance.field-0 c.entry.result.now c.loop-cursor.invariant.of_list
    c.if-branch.true c.in_ok-advance.ensures.passed c.entry.ensures.at in
    let greater = c.greater-count.ensures ∙ ap (λ n. max c.loop-cursor.count (n + 1)) c.level.ensures in
    record {
      of_list = of_list p;
      inside = inside p;
      counted = subst (λ n. c.greater-count.result ≡ level_count (take n xs)) (one_on p)
          (count_kept (turn_at _ refl p) c.loop-cursor.count c.greater-count.result c.loop-cursor.invariant.counted greater);
    }

pub returns : goal.returns
returns c =
    let over = no_more c.args.list.now c.loop-cursor.cursor c.in_ok-advance.field-0 c.loop-cursor.invariant.of_list
    c.in_ok-advance.ensures.answer c.if-branch.false in
    c.loop-cursor.invariant.counted ∙ count_all c.args.list.now c.loop-cursor.cursor.1 over
