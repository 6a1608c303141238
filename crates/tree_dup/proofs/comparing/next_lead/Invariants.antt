use Rattle.tree_dup.proofs.Prelude.{◌≡◌, ◌<◌, false, length, get_or, File, Sought, is_alike}
use Rattle.tree_dup.proofs.comparing.next_lead.Given as goal

abbrev pub invariant-loop-k : goal.invariant-loop-k
invariant-loop-k g l =
    let reader = g.R.Tree in
    record {
      sought : Sought reader.tree reader.count reader.gives l.at l.fn.reader l.reader l.fn.files l.files;
      before : (d : File) → 0 < l.k → 0 < length l.files → is_alike (get_or l.files 0 d) ≡ false;
    }
