use Rattle.checkpoints.proofs.Prelude.{subst, map, List, ℕ, Vec, Global, flat_map, Path, Left, is_misplaced, paths_in, IsLowest, numbered}
use Rattle.checkpoints.proofs.Placed.{own_order}
use Rattle.checkpoints.proofs.placing.first_number.Goals as goal

pub returns : goal.returns
returns c =
    let done = c.args.done.now in
    let flat = flat_map (λ (l : List (List ℕ)). l) (map (λ (v : Vec Path Global). v.items) c.args.lists.now) in
    let low = subst (λ (ls : List Left). IsLowest (is_misplaced done (paths_in (numbered ls))) (numbered ls) c.in_ok-lowest.lowest)
    c.deref.ensures.value c.in_ok-lowest.ensures in
    own_order done flat (numbered c.in_ok-lefts.lefts.items) c.in_ok-lowest.lowest c.in_ok-lefts.ensures.all low
