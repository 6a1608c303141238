use Rattle.range_copy.proofs.Prelude.{◌≡◌, ◌++◌, drop, into_iter_items, merged}
use Rattle.range_copy.proofs.merging.merge.Given as goal

-- the rows so far, with those of the marks that are left
abbrev pub invariant-loop-mark : goal.invariant-loop-mark
invariant-loop-mark l =
    l.rows.items ++ merged (drop l.mark-index l.marks) (into_iter_items l.slim) (into_iter_items l.wide) ≡ merged l.marks l.fn.small.items l.fn.large.items
