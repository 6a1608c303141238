use Rattle.tree_copy.proofs.Prelude.{◌≡◌, ◌-◌, ◌≤◌, length, drop, map, into_iter_items, into_iter_len, paths, treated, fitting}
use Rattle.tree_copy.proofs.Tallies.{Tallied, firsts, seconds}
use Rattle.tree_copy.proofs.settling.settle.Given as goal

-- the tally of the entries that were passed
abbrev pub invariant-loop-cursor : goal.invariant-loop-cursor
invariant-loop-cursor l = record {
  of_list : l.cursor.0 ≡ l.list;
  inside : l.cursor.1 ≤ length l.list;
  behind : l.place ≤ length l.tally.rows.items;
  so_far : Tallied (treated l.list) l.fits l.outcome (treated (drop l.cursor.1 l.list)) (drop (length l.tally.rows.items) l.fits) (drop l.place l.outcome)
      (firsts l.tally.rows.items) (seconds l.tally.rows.items) l.tally.copied l.tally.bytes;
  left : map (λ x. x.entry.path) (into_iter_items l.items) ≡ fitting (drop (length l.tally.rows.items) l.fits) (paths (treated (drop l.cursor.1 l.list)));
  left_len : into_iter_len l.items ≡ length (into_iter_items l.items);
}

abbrev pub decreases-loop-cursor : goal.decreases-loop-cursor
decreases-loop-cursor l = length l.list - l.cursor.1
