use Rattle.tree_dup.proofs.Prelude.{◌≡◌, ◌-◌, ◌<◌, ◌≤◌, false, length, get_or, IfSome, All, File, Went, IsThere, AreDivided, is_other}
use Rattle.tree_dup.proofs.comparing.compare_all.Given as goal

abbrev pub invariant-loop-at : goal.invariant-loop-at
invariant-loop-at g l =
    let reader = g.R.Tree in
    record {
      inside : l.at ≤ l.size;
      went : Went reader.tree reader.count reader.gives l.fn.reader l.reader l.fn.files l.files;
      told : IfSome (reader.tree l.fn.reader) (λ tree. All (IsThere tree) l.fn.files → AreDivided tree l.at l.hasher l.files);
      empty : l.at ≡ 0 → l.files ≡ l.fn.files;
      front : (d : File) → 0 < length l.fn.files → is_other (get_or l.fn.files 0 d) ≡ false → is_other (get_or l.files 0 d) ≡ false;
      ours : length l.ours ≡ length l.fn.ours;
      theirs : length l.theirs ≡ length l.fn.theirs;
    }

abbrev pub decreases-loop-at : goal.decreases-loop-at
decreases-loop-at g l = l.size - l.at
