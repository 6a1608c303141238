use Rattle.tree_sync.proofs.Prelude.{◌≡◌, ◌-◌, ◌≤◌, length, take, filter, below_of, side, IsPassed, IsNext, masks_of, row_paths, is_kept, is_copied}
use Rattle.tree_sync.proofs.dividing.divided.Given as goal

-- the kept, copied and masked ones of the entries that were passed; the search is not past the next one
abbrev pub invariant-loop-cursor : goal.invariant-loop-cursor
invariant-loop-cursor l = record {
  of_list : l.cursor.0 ≡ l.source;
  inside : l.cursor.1 ≤ length l.source;
  few : l.kept ≤ l.cursor.1;
  kept : l.kept ≡ length (filter (is_kept (side l.top l.source) l.found.rows) (take l.cursor.1 l.source));
  copied : l.copied ≡ filter (is_copied (side l.top l.source) l.found.rows) (take l.cursor.1 l.source);
  masks : l.masks.items ≡ masks_of (side l.top (take l.cursor.1 l.source));
  next : IsNext IsPassed (λ e. below_of e.path l.top) l.source l.cursor.1 (row_paths l.found.rows) l.at;
}

abbrev pub decreases-loop-cursor : goal.decreases-loop-cursor
decreases-loop-cursor l = length l.source - l.cursor.1
