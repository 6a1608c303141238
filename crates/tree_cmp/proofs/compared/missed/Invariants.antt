use Rattle.tree_cmp.proofs.Prelude.{◌≡◌, take, filter_map, missed_by}
use Rattle.tree_cmp.proofs.compared.missed.Given as goal

abbrev pub invariant-loop-draft : goal.invariant-loop-draft
invariant-loop-draft l = l.missed.items ≡ filter_map (missed_by l.why l.left l.right) (take l.draft-index l.drafts)
