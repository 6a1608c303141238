use Rattle.tree_dup.proofs.Prelude.{arith, ap, sym, subst, IfSome, faults_of, StandFor, comparison_faults, kept_less, kept_rose}
use Rattle.tree_dup.proofs.Counted.{read_more, read_none}
use Rattle.tree_dup.proofs.Sifted.{sifted_left, sifted_as}
use Rattle.tree_dup.proofs.grouping.divide.Goals as goal

pub loop-alloc-init : goal.loop-alloc-init
loop-alloc-init g c = record {
  sifted = λ list others s. s;
  room = c.requires.room;
  run = c.requires.run;
  alike = c.requires.alike;
  whole = c.requires.whole;
  told = c.requires.told;
  read_on = read_none _ _ _;
}

pub loop-alloc-preserved : goal.loop-alloc-preserved
loop-alloc-preserved g c =
    let i = c.loop-alloc.invariant in
    let e = c.in_ok-run.ensures in
    record {
      room = e.room;
      run = e.run;
      alike = e.alike;
      whole = e.whole;
      told = subst (λ o. IfSome o (StandFor (g.R.Tree.tree c.args.reader.now) g.R.Tree.gives c.in_ok-run.run'.items)) (sym c.take.ensures.after) tt;
      sifted = λ list others s. sifted_as _ _ list _ _ _ _ i.read_on.same (e.sifted list others) (i.sifted list others s);
      read_on = read_more i.read_on (faults_of comparison_faults c.take.result) _
          (omega (arith, ap (faults_of comparison_faults) c.take.ensures.value, ap (faults_of comparison_faults) c.take.ensures.after)) _ _
          e.same e.counted e.causes;
    }

pub returns : goal.returns
returns g c =
    let i = c.loop-alloc.invariant in
    record {
      sifted = λ list others s. sifted_left (g.R.Tree.tree c.args.reader.now) list c.loop-alloc.run.items others c.loop-alloc.found (omega arith)
          (i.sifted list others s);
      counted = kept_less _ _ _ _ _ i.read_on.counted;
      causes = i.read_on.causes;
      same = i.read_on.same;
      count = kept_rose _ _ _ _ i.read_on.counted;
      room = i.room;
    }
