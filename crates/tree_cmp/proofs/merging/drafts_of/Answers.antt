use Rattle.tree_cmp.proofs.Prelude.{ℕ, List, subst, sym, drop, Entry, items_of, Ascend}
use Rattle.tree_cmp.proofs.Sided.{items_ascend}
use Rattle.tree_cmp.proofs.merging.drafts_of.Goals as goal

pub merged-requires-clause-left_ascends : goal.merged-requires-clause-left_ascends
merged-requires-clause-left_ascends c =
    subst (λ (p : List Entry × ℕ). Ascend (items_of c.args.left_top.now (drop p.1 p.0))) (sym c.in_ok-cursor.ensures)
    (items_ascend c.below_keeps_order.ensures c.args.left_top.now c.args.left.now c.requires.left)

pub merged-requires-clause-right_ascends : goal.merged-requires-clause-right_ascends
merged-requires-clause-right_ascends c =
    subst (λ (p : List Entry × ℕ). Ascend (items_of c.args.right_top.now (drop p.1 p.0))) (sym c.in_ok-cursor-2.ensures)
    (items_ascend c.below_keeps_order.ensures c.args.right_top.now c.args.right.now c.requires.right)
