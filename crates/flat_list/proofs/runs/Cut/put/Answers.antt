use Rattle.flat_list.proofs.Prelude.{IsPermutation-trans, held_by}
use Rattle.flat_list.proofs.Cuts.{one_waits, one_put}
use Rattle.flat_list.proofs.runs.Cut.put.Goals as goal

pub loop-self-preserved : goal.loop-self-preserved
loop-self-preserved c = IsPermutation-trans _ _ _ c.loop-self.invariant c.in_ok-pass_last.ensures.moved

pub returns-then-is_dir : goal.returns-then-is_dir
returns-then-is_dir c =
    let cut = c.loop-self.self in
    one_waits _ (held_by cut.pieces) cut.waiting c.put.new.self c.args.entry.now c.loop-self.invariant c.in_ok-put.ensures.ok

pub returns : goal.returns
returns c =
    let cut = c.loop-self.self in
    one_put _ (held_by cut.pieces) (held_by c.put-2.new.self) cut.waiting c.args.entry.now c.loop-self.invariant c.in_ok-put-2.ensures
