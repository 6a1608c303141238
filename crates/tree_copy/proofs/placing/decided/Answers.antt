use Rattle.tree_copy.proofs.Prelude.{◌≡◌, ◌||◌, ◌++◌, true, map, has_targets, overlap, pairs_in, placed}
use Rattle.tree_copy.proofs.Due.{due_of, due_with, told_by, why_by, of_some, of_match}
use Rattle.tree_copy.proofs.Overlaps.{target}
use Rattle.tree_copy.proofs.placing.decided.Goals as goal
use Rattle.tree_copy.proofs.placing.decided.Goals.{In-Some}

-- what is due once each source has its pair
due : (c : In-Some) → placed c.args.in_dir c.args.over_dir c.args.dest.now c.args.sources.now
    ≡ due_of (overlap (c.args.sources.now ++ map target c.in-Some.pairs.items)) (c.args.in_dir || c.args.over_dir) c.in-Some.pairs.items
due c =
    let a = c.args in
    let found = c.in_ok-pairs.ensures in
    let pairs = c.in-Some.pairs in
    due_with a.in_dir a.over_dir a.dest.now a.sources.now pairs.items
    (of_match _ (λ _. has_targets a.in_dir a.dest.now a.sources.now ≡ true) _ pairs c.in-Some.is found.whether)
    (of_some (λ ps. ps.items ≡ pairs_in a.in_dir a.dest.now a.sources.now) _ pairs c.in-Some.is found.some)

pub returns-in-Some-clause-told : goal.returns-in-Some-clause-told
returns-in-Some-clause-told c =
    told_by (λ ps. ps.items) (overlap (c.args.sources.now ++ map target c.in-Some.pairs.items)) (c.args.in_dir || c.args.over_dir) c.in-Some.pairs _
    c.apart.result (due (goal.at.returns-in-Some-clause-told c).In-Some) c.apart.ensures

pub returns-in-Some-clause-why : goal.returns-in-Some-clause-why
returns-in-Some-clause-why c =
    why_by (λ ps. ps.items) (overlap (c.args.sources.now ++ map target c.in-Some.pairs.items)) (c.args.in_dir || c.args.over_dir) c.in-Some.pairs _
    c.apart.result (due (goal.at.returns-in-Some-clause-why c).In-Some) c.apart.ensures
