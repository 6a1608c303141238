use Rattle.tree_dup.proofs.Prelude.{◌≡◌, ◌-◌, ◌≤◌, length, map, Option, IfSome, Files, StatsTold, still, AreListed}
use Rattle.tree_dup.proofs.candidates.candidates.Given as goal

abbrev pub invariant-loop-cursor : goal.invariant-loop-cursor
invariant-loop-cursor l = record {
  of_list : l.cursor.0 ≡ l.list;
  inside : l.cursor.1 ≤ length l.list;
  listed : (tree : Option Files) → IfSome tree (λ t. StatsTold t l.list) → AreListed tree l.list l.cursor.1 l.files.items;
  alike : map still l.files.items ≡ l.files.items;
}

abbrev pub decreases-loop-cursor : goal.decreases-loop-cursor
decreases-loop-cursor l = length l.list - l.cursor.1
