use Rattle.tree_dup.proofs.Prelude.{rules, arith, length, sym, ap, subst, AreListed}
use Rattle.tree_dup.proofs.Entered.{entry_at, entry_last, first_listed}
use Rattle.tree_dup.proofs.candidates.candidates.Goals as goal

pub loop-cursor-init : goal.loop-cursor-init
loop-cursor-init c = record {
  of_list = search rules;
  inside = search rules;
  listed = λ tree told. first_listed tree c.args.list.now c.in_ok-cursor.cursor.1 c.new-files.result.items c.new-files.ensures.items (search rules);
  alike = search rules;
}

pub loop-cursor-preserved : goal.loop-cursor-preserved
loop-cursor-preserved c =
    let i = c.loop-cursor.invariant in
    let a = c.in_ok-advance.ensures in
    let e = c.in_ok-add_candidate.ensures in
    let list = c.args.list.now in
    let there = entry_at list c.loop-cursor.cursor c.advance.new.self c.entry.result.now c.in_ok-advance.field-0
    i.of_list c.if-branch.true a.passed c.entry.ensures.at in
    record {
      of_list = there.1;
      inside = omega (arith, a.inside, ap length there.1);
      listed = λ tree told. subst (λ n. AreListed tree list n c.add_candidate.new.files.items) (sym there.2)
          (e.on tree list c.loop-cursor.cursor.1 c.in_ok-counts.ensures there.0 told (i.listed tree told));
      alike = e.alike i.alike;
    }

pub returns-clause-listed : goal.returns-clause-listed
returns-clause-listed c = λ tree told.
    let i = c.loop-cursor.invariant in
    subst (λ n. AreListed tree c.args.list.now n c.loop-cursor.files.items)
    (entry_last c.args.list.now c.loop-cursor.cursor c.in_ok-advance.field-0 i.of_list i.inside c.in_ok-advance.ensures.answer c.if-branch.false)
    (i.listed tree told)
