use Rattle.tree_dup.proofs.Prelude.{arith, ◌≡◌, [], ◌∷◌, length, map, take, drop, sym, subst, ◌∙◌, List, All, IsSorted, take_all, All-take, All-drop, eqb-true}
use Rattle.tree_dup.proofs.Prelude.{IsKept, faults_of, kept_less, kept_rose, holds_kept, holds_cut, File, IsWhole, IsRun, IsLastRun, StandFrom, StandFor}
use Rattle.tree_dup.proofs.Prelude.{comparison_faults, content_cmp, still, AreSifted, if_some}
use Rattle.tree_dup.proofs.Counted.{read_more, read_none}
use Rattle.tree_dup.proofs.Compared.{front_cut, stand_for}
use Rattle.tree_dup.proofs.Ran.{sorted_take, still_take, still_drop}
use Rattle.tree_dup.proofs.Sifted.{sifted_cut, sifted_left, sifted_as}
use Rattle.tree_dup.proofs.grouping.divide_all.Goals as goal

pub loop-alloc-init : goal.loop-alloc-init
loop-alloc-init g c = record {
  room = c.requires.room;
  sorted = c.requires.sorted;
  alike = c.requires.alike;
  whole = c.requires.whole;
  sifted = λ list s. s;
  front = sym (take_all (length c.args.files.items) c.args.files.items (omega arith));
  told = c.requires.told;
  read_on = read_none _ _ _;
}

pub loop-alloc-preserved : goal.loop-alloc-preserved
loop-alloc-preserved g c =
    let i = c.loop-alloc.invariant in
    let e = c.in_ok-divide.ensures in
    let tree = g.R.Tree.tree c.args.reader.now in
    let files = c.loop-alloc.files.items in
    let start = c.last_run-start.result in
    let front : c.split_off.new.self.items ≡ take start files = c.in_ok-run.ensures.items in
    let run : c.in_ok-run.run'.items ≡ drop start files = c.in_ok-run.ensures.tail in
    let last : IsLastRun files start = subst (λ (fs : List File). IsLastRun fs start) c.deref.ensures.value c.last_run-start.ensures in
    record {
      room = e.room;
      sorted = subst (IsSorted content_cmp) (sym front) (sorted_take files start i.sorted);
      alike = subst (λ (fs : List File). map still fs ≡ fs) (sym front) (still_take start files i.alike);
      whole = subst (All (IsWhole g.R.Tree.gives)) (sym front) (All-take (IsWhole g.R.Tree.gives) start files i.whole);
      sifted = λ list s. sifted_as tree (g.R.Tree.tree c.loop-alloc.reader) list (c.in_ok-run.run'.items ∷ (c.split_off.new.self.items ∷ []))
          (c.split_off.new.self.items ∷ []) c.loop-alloc.found c.divide.new.found i.read_on.same
          (e.sifted list (c.split_off.new.self.items ∷ []))
          (subst (λ (fs : List File). AreSifted tree list (c.in_ok-run.run'.items ∷ (fs ∷ [])) c.loop-alloc.found) (sym front)
          (subst (λ (fs : List File). AreSifted tree list (fs ∷ (take start files ∷ [])) c.loop-alloc.found) (sym run)
          (sifted_cut tree list files [] start c.loop-alloc.found last (i.sifted list s))));
      front = front_cut files c.args.files.items c.split_off.new.self.items start i.front front (omega (arith, last.inside));
      told = holds_cut (StandFrom tree g.R.Tree.gives c.args.files.items) c.loop-alloc.kept c.take.new.self
          c.take.ensures.cut i.told;
      read_on = read_more i.read_on (faults_of comparison_faults c.take.result) _ (c.take.ensures.held comparison_faults) _ _ e.same e.counted e.causes;
    }

pub divide-requires-clause-run : goal.divide-requires-clause-run
divide-requires-clause-run g c =
    subst IsRun (sym c.in_ok-run.ensures.tail)
    (subst (λ (fs : List File). IsRun (drop c.last_run-start.result fs)) c.deref.ensures.value c.last_run-start.ensures.run)

pub divide-requires-clause-alike : goal.divide-requires-clause-alike
divide-requires-clause-alike g c =
    subst (λ (fs : List File). map still fs ≡ fs) (sym c.in_ok-run.ensures.tail)
    (still_drop c.last_run-start.result c.loop-alloc.files.items c.loop-alloc.invariant.alike)

pub divide-requires-clause-whole : goal.divide-requires-clause-whole
divide-requires-clause-whole g c =
    subst (All (IsWhole g.R.Tree.gives)) (sym c.in_ok-run.ensures.tail)
    (All-drop (IsWhole g.R.Tree.gives) c.last_run-start.result c.loop-alloc.files.items c.loop-alloc.invariant.whole)

pub divide-requires-clause-told : goal.divide-requires-clause-told
divide-requires-clause-told g c =
    let i = c.loop-alloc.invariant in
    let files = c.loop-alloc.files.items in
    let start = c.last_run-start.result in
    let tree = g.R.Tree.tree c.args.reader.now in
    let run : c.in_ok-run.run'.items ≡ drop start files = c.in_ok-run.ensures.tail in
    let last : IsLastRun files start = subst (λ (fs : List File). IsLastRun fs start) c.deref.ensures.value c.last_run-start.ensures in
    if_some c.take.result (λ standings. IsKept start standings c.loop-alloc.kept)
    (StandFor (g.R.Tree.tree c.loop-alloc.reader) g.R.Tree.gives c.in_ok-run.run'.items)
    (λ standings there. subst (λ t. StandFor t g.R.Tree.gives c.in_ok-run.run'.items standings) (sym i.read_on.same)
    (stand_for tree g.R.Tree.gives files c.args.files.items c.in_ok-run.run'.items start standings i.front run (omega (arith, last.inside))
    (subst (λ (fs : List File). map still fs ≡ fs) (sym run) (still_drop start files i.alike))
    (holds_kept (StandFrom tree g.R.Tree.gives c.args.files.items) start standings c.loop-alloc.kept i.told there)))
    c.take.ensures.kept

pub last_run-start-requires-clause-sorted : goal.last_run-start-requires-clause-sorted
last_run-start-requires-clause-sorted g c = subst (IsSorted content_cmp) (sym c.deref.ensures.value) c.loop-alloc.invariant.sorted

pub returns : goal.returns
returns g c =
    let i = c.loop-alloc.invariant in
    let none : c.loop-alloc.files.len ≡ 0 = eqb-true c.loop-alloc.files.len 0 (sym c.is_empty.ensures ∙ c.loop-alloc-test.false) in
    record {
      sifted = λ list s. sifted_left (g.R.Tree.tree c.args.reader.now) list c.loop-alloc.files.items [] c.loop-alloc.found
          (omega (arith, none, c.loop-alloc.files.ok.0)) (i.sifted list s);
      counted = kept_less _ _ _ _ _ i.read_on.counted;
      causes = i.read_on.causes;
      same = i.read_on.same;
      count = kept_rose _ _ _ _ i.read_on.counted;
    }
