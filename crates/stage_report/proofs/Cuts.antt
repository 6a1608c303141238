-- A stage that stops leaves a cut of the walk.
use Rattle.stage_report.proofs.Prelude.{◌≡◌, ℕ, ◌<◌, List, [], length, ap, arith, IsCut, CutGoesOn, IsKept, all_of, CheckpointsAreCuts}
use Rattle.stage_report.proofs.Begun.{Laws, of_told, begins_at_cut}

-- where strings are left there is a rank
some_rank : (left : List (List (List ℕ))) → 0 < length (all_of left) → (left ≡ []) → ⊥
some_rank left some none = absurd (omega (arith, some, ap (λ ls. length (all_of ls)) none))

pub checkpoints_are_cuts : Laws → CutGoesOn → CheckpointsAreCuts
checkpoints_are_cuts laws more asked before after why files new starts within tree told told' same begins s =
    let was = s.was in
    let begun = was.begun in
    let first = begins_at_cut laws asked.starts asked.lists before files starts begun.starts begun.done within.starts told begins begun.begins in
    let second = of_told (λ files. IsCut files begun.starts was.cut.later (all_of was.left)) before.tree files told was.cut.cut.told in
    record {
      done = was.list;
      left = was.left;
      kept = of_told (IsKept asked.lists was.list was.left) after.tree new told' s.kept;
      some_rank = some_rank was.left was.cut.some_left;
      walked = files;
      tree = tree;
      same = same;
      cut = more files starts begun.starts (all_of was.left) begun.done was.cut.later was.list first second was.cut.joined.all;
    }
