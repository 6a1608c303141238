use Rattle.tree_cmp.proofs.Prelude.{◌≡◌, ◌+◌, ◌++◌, List, length, None, Draft, links_at, HasSoundEnds, left_of, side_of, Ready, From}
use Rattle.tree_cmp.proofs.merging.merged.Given as goal

abbrev pub invariant-loop-right : goal.invariant-loop-right
invariant-loop-right l = record {
  ready : Ready l.hidden (left_of l.left) (left_of l.right);
  left : HasSoundEnds l.left;
  right : HasSoundEnds l.right;
  left_side : side_of l.left.feed ≡ side_of l.initial.left.feed;
  right_side : side_of l.right.feed ≡ side_of l.initial.right.feed;
  goes : (rest : List Draft) → From (links_at (side_of l.initial.left.feed) (side_of l.initial.right.feed)) l.hidden (left_of l.left) (left_of l.right) rest
      → From (links_at (side_of l.initial.left.feed) (side_of l.initial.right.feed)) None (left_of l.initial.left) (left_of l.initial.right)
      (l.drafts.items ++ rest);
}

abbrev pub decreases-loop-right : goal.decreases-loop-right
decreases-loop-right l = length (left_of l.left) + length (left_of l.right)
