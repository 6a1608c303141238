use Rattle.flat_list.proofs.Prelude.{sym, subst, IsPermutation, held_by}
use Rattle.flat_list.proofs.Merged.{flat}
use Rattle.flat_list.proofs.Cuts.{put}
use Rattle.flat_list.proofs.runs.Pieces.put.Goals as goal

pub returns : goal.returns
returns c =
    let before = held_by c.args.self.now in
    let shared = c.share.new.self in
    let moved : IsPermutation before (held_by shared) = subst (IsPermutation before) (sym c.share.ensures) c.in_ok-end_long.ensures in
    put before (held_by c.end_full.new.self) (flat shared.runs.items) shared.piece c.put.new.self c.args.entry.now moved c.in_ok-put.ensures.ok
    c.in_ok-end_full.ensures
