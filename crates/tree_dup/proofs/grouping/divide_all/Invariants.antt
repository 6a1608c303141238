use Rattle.tree_dup.proofs.Prelude.{◌≡◌, List, [], ◌∷◌, length, map, take, All, IsSorted, Entry, HasRoom, Holds, held, IsWhole, StandFrom, comparison_faults}
use Rattle.tree_dup.proofs.Prelude.{content_cmp, still, AreSifted, ReadOn}
use Rattle.tree_dup.proofs.grouping.divide_all.Given as goal

abbrev pub invariant-loop-alloc : goal.invariant-loop-alloc
invariant-loop-alloc g l =
    let reader = g.R.Tree in
    record {
      room : HasRoom l.desk;
      sorted : IsSorted content_cmp l.files.items;
      alike : map still l.files.items ≡ l.files.items;
      whole : All (IsWhole reader.gives) l.files.items;
      sifted : (list : List Entry) → AreSifted (reader.tree l.fn.reader) list (l.fn.files.items ∷ []) l.fn.found →
          AreSifted (reader.tree l.fn.reader) list (l.files.items ∷ []) l.found;
      front : l.files.items ≡ take (length l.files.items) l.fn.files.items;
      told : Holds (StandFrom (reader.tree l.fn.reader) reader.gives l.fn.files.items) l.kept;
      read_on : ReadOn reader.tree reader.count reader.gives (held comparison_faults l.fn.kept) (held comparison_faults l.kept)
          l.fn.reader l.reader l.fn.found l.found;
    }

abbrev pub decreases-loop-alloc : goal.decreases-loop-alloc
decreases-loop-alloc g l = length l.files.items
