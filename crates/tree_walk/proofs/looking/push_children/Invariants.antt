use Rattle.tree_walk.proofs.Prelude.{◌≡◌, ◌++◌, map, take, length, joined}
use Rattle.tree_walk.proofs.looking.push_children.Given as goal

-- the names before `at` are there
abbrev pub invariant-loop-at : goal.invariant-loop-at
invariant-loop-at l = record { ends : l.at-end ≡ length l.listing.0; pushed : l.fresh ≡ l.fn.fresh ++ map (joined l.path) (take l.at l.listing.0) }
