use Rattle.flat_list.proofs.Prelude.{arith, ◌++◌, ◌∙◌, refl, ap, subst, line, end_text}
use Rattle.flat_list.proofs.Encoded.{Written, one_written, spells}
use Rattle.flat_list.proofs.Turns.{passes, turn_at, of_list, one_on, inside, no_more}
use Rattle.flat_list.proofs.encoding.encode.Goals as goal

pub loop-cursor-preserved : goal.loop-cursor-preserved
loop-cursor-preserved c =
    let xs = c.args.list.now in
    let p = passes xs c.loop-cursor.cursor c.advance.new.self c.in_ok-advance.field-0 c.entry.result.now c.loop-cursor.invariant.of_list
    c.if-branch.true c.in_ok-advance.ensures.passed c.entry.ensures.at in
    record {
      of_list = of_list p;
      inside = inside p;
      written = subst (Written c.put_entry.new.text.items xs) (one_on p)
          (one_written (turn_at _ refl p) c.loop-cursor.invariant.written c.in_ok-put_entry.ensures.text c.in_ok-put_entry.ensures.entry);
    }

pub returns : goal.returns
returns c =
    let over = no_more c.args.list.now c.loop-cursor.cursor c.in_ok-advance.field-0 c.loop-cursor.invariant.of_list
    c.in_ok-advance.ensures.answer c.if-branch.false in
    spells c.loop-cursor.invariant.written over (omega (arith, c.put_end.ensures.small, c.len.ensures))
    (c.in_ok-put_end.ensures.text ∙ ap (λ n. c.loop-cursor.text.items ++ line (end_text n)) c.len.ensures) c.requires.ascend
