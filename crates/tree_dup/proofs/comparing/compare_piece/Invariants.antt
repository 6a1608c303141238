use Rattle.tree_dup.proofs.Prelude.{◌≡◌, ◌<◌, false, length, get_or, File, Went, is_alike, is_other}
use Rattle.tree_dup.proofs.Stood.{HalfTold}
use Rattle.tree_dup.proofs.comparing.compare_piece.Given as goal

abbrev pub invariant-loop-k : goal.invariant-loop-k
invariant-loop-k g l =
    let reader = g.R.Tree in
    record {
      went : Went reader.tree reader.count reader.gives l.fn.reader l.reader l.fn.files l.files;
      told : HalfTold (reader.tree l.fn.reader) l.at l.room l.ours l.lead l.k l.fn.files l.files;
      front : (d : File) → 0 < length l.fn.files → is_other (get_or l.fn.files 0 d) ≡ false → is_other (get_or l.files 0 d) ≡ false;
      first : (d : File) → 0 < l.lead → 0 < length l.files → is_alike (get_or l.files 0 d) ≡ false;
    }
