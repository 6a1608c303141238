use Rattle.tree_copy.proofs.Prelude.{◌≡◌, ◌≤◌, length, take, All, pairs_in, target_in}
use Rattle.tree_copy.proofs.placing.paired.Given as goal

-- the sources that were passed have their targets
abbrev pub invariant-loop-source : goal.invariant-loop-source
invariant-loop-source l = record {
  made : l.pairs.items ≡ pairs_in l.in_dir l.dest (take l.source-index l.sources);
  short : All (λ source. length (target_in l.in_dir l.dest source) ≤ 4095) (take l.source-index l.sources);
}
