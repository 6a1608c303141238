use Rattle.tree_dup.proofs.Prelude.{arith, ◌≡◌, ◌++◌, ◌<◌, false, length, map, take, drop, get_or, ap, sym, subst, List, All, IfSome, File, Went, IsThere}
use Rattle.tree_dup.proofs.Prelude.{AreSettled, is_other, still, written}
use Rattle.tree_dup.proofs.comparing.compare_run.Given as given
use Rattle.tree_dup.proofs.comparing.compare_run.Goals as goal
use Rattle.tree_dup.proofs.comparing.compare_run.Goals.{After-compare_all}

pub compare_all-requires-clause-alike : goal.compare_all-requires-clause-alike
compare_all-requires-clause-alike g c = subst (λ (fs : List File). map still fs ≡ fs) (sym c.deref_mut.ensures.value) c.requires.alike

pub compare_all-requires-clause-sizes : goal.compare_all-requires-clause-sizes
compare_all-requires-clause-sizes g c = subst (All (λ (f : File). f.size ≡ c.args.size)) (sym c.deref_mut.ensures.value) c.requires.sizes

-- what is so of the files that were lent, before and after, is so of the run
written_back : (g : given.Over) (c : After-compare_all g) (P : List File → List File → Type 0) → P c.deref_mut.result.now c.compare_all.new.files →
    P c.args.run.now.items (take c.args.run.now.len (c.compare_all.new.files ++ drop (length c.compare_all.new.files) c.args.run.now.items))
written_back g c P so =
    let new : List File = c.compare_all.new.files in
    let back : take c.args.run.now.len (new ++ drop (length new) c.args.run.now.items) ≡ new =
    written c.args.run.now.len new c.args.run.now.items (omega (arith, c.compare_all.auto.files, c.deref_mut.ensures.len))
    (omega (arith, ap length c.deref_mut.ensures.value, c.deref_mut.ensures.len)) in
    subst (P c.args.run.now.items) (sym back) (subst (λ (fs : List File). P fs new) c.deref_mut.ensures.value so)

pub returns-clause-went : goal.returns-clause-went
returns-clause-went g c =
    let reader = g.R.Tree in
    written_back g (goal.at.returns-clause-went g c).After-compare_all
    (λ run run'. Went reader.tree reader.count reader.gives c.args.reader.now c.compare_all.new.reader run run') c.compare_all.ensures.went

pub returns-clause-settled : goal.returns-clause-settled
returns-clause-settled g c =
    written_back g (goal.at.returns-clause-settled g c).After-compare_all
    (λ run run'. IfSome (g.R.Tree.tree c.args.reader.now) (λ tree. All (IsThere tree) run → AreSettled tree c.compare_all.result run'))
    c.compare_all.ensures.settled

pub returns-clause-empty : goal.returns-clause-empty
returns-clause-empty g c =
    written_back g (goal.at.returns-clause-empty g c).After-compare_all (λ run run'. c.args.size ≡ 0 → run' ≡ run) c.compare_all.ensures.empty

pub returns-clause-front : goal.returns-clause-front
returns-clause-front g c =
    written_back g (goal.at.returns-clause-front g c).After-compare_all
    (λ run run'. (d : File) → 0 < length run → is_other (get_or run 0 d) ≡ false → is_other (get_or run' 0 d) ≡ false) c.compare_all.ensures.front
