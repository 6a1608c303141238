use Rattle.tree_dup.proofs.Prelude.{◌≡◌, List, ◌∷◌, length, map, All, IfSome, Entry, File, HasRoom, faults_of, IsWhole, StandFor, comparison_faults, IsRun}
use Rattle.tree_dup.proofs.Prelude.{still, AreSifted, ReadOn}
use Rattle.tree_dup.proofs.grouping.divide.Given as goal

abbrev pub invariant-loop-alloc : goal.invariant-loop-alloc
invariant-loop-alloc g l =
    let reader = g.R.Tree in
    record {
      room : HasRoom l.desk;
      run : IsRun l.run.items;
      alike : map still l.run.items ≡ l.run.items;
      whole : All (IsWhole reader.gives) l.run.items;
      sifted : (list : List Entry) (others : List (List File)) → AreSifted (reader.tree l.fn.reader) list (l.fn.run.items ∷ others) l.fn.found →
          AreSifted (reader.tree l.fn.reader) list (l.run.items ∷ others) l.found;
      told : IfSome l.compared (StandFor (reader.tree l.fn.reader) reader.gives l.run.items);
      read_on : ReadOn reader.tree reader.count reader.gives (faults_of comparison_faults l.fn.compared) (faults_of comparison_faults l.compared)
          l.fn.reader l.reader l.fn.found l.found;
    }

abbrev pub decreases-loop-alloc : goal.decreases-loop-alloc
decreases-loop-alloc g l = length l.run.items
