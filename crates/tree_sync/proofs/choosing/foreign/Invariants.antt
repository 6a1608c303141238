use Rattle.tree_sync.proofs.Prelude.{◌≡◌, ◌-◌, ◌≤◌, length, take, filter, below_of, side, IsPassed, IsNext, IsCleared, is_chosen_off, row_paths}
use Rattle.tree_sync.proofs.choosing.foreign.Given as goal

-- the chosen ones of the entries that were passed; the searches are not past the next one
abbrev pub invariant-loop-cursor : goal.invariant-loop-cursor
invariant-loop-cursor l = record {
  of_list : l.cursor.0 ≡ l.dest;
  inside : l.cursor.1 ≤ length l.dest;
  chosen : l.chosen ≡ filter (is_chosen_off l.masks (side l.top l.dest) l.found.rows) (take l.cursor.1 l.dest);
  rows : IsNext IsPassed (λ e. below_of e.path l.top) l.dest l.cursor.1 (row_paths l.found.rows) l.at;
  masks : IsNext IsCleared (λ e. below_of e.path l.top) l.dest l.cursor.1 l.masks l.past;
}

abbrev pub decreases-loop-cursor : goal.decreases-loop-cursor
decreases-loop-cursor l = length l.dest - l.cursor.1
