use Rattle.tree_remove.proofs.Prelude.{◌≡◌, length, into_iter_items, into_iter_len}
use Rattle.tree_remove.proofs.Rows.{SoFar}
use Rattle.tree_remove.proofs.removals.rows_of.Given as goal

-- the rows of the items that were passed
abbrev pub invariant-loop-item : goal.invariant-loop-item
invariant-loop-item l = record {
  left : into_iter_len l.item-iterator ≡ length (into_iter_items l.item-iterator);
  so_far : SoFar l.fn.items.items (into_iter_items l.item-iterator) l.fates l.rows.items;
}
