use Rattle.tree_dup.proofs.Prelude.{arith, sym, subst, ap, take, length, AreCounts}
use Rattle.tree_dup.proofs.Entered.{entry_at, entry_last, counted_more, counts_all}
use Rattle.tree_dup.proofs.sizes.size_counts.Goals as goal

pub loop-cursor-preserved : goal.loop-cursor-preserved
loop-cursor-preserved c =
    let i = c.loop-cursor.invariant in
    let a = c.in_ok-advance.ensures in
    let there = entry_at c.args.list.now c.loop-cursor.cursor c.advance.new.self c.entry.result.now c.in_ok-advance.field-0
    i.of_list c.if-branch.true a.passed c.entry.ensures.at in
    record {
      of_list = there.1;
      inside = omega (arith, there.2, a.inside, ap (λ xs. length xs) there.1);
      counts = subst (λ n. AreCounts (take n c.args.list.now) c.count_size.new.counts) (sym there.2)
          (λ size. counted_more c.args.list.now c.loop-cursor.cursor.1 size _ _ c.entry.result.now there.0 (i.counts size) (c.in_ok-count_size.ensures size));
    }

pub returns : goal.returns
returns c =
    let i = c.loop-cursor.invariant in
    let list = c.args.list.now in
    counts_all list c.loop-cursor.cursor.1 c.loop-cursor.counts
    (entry_last list c.loop-cursor.cursor c.in_ok-advance.field-0 i.of_list i.inside c.in_ok-advance.ensures.answer c.if-branch.false) i.counts
