use Rattle.flat_list.proofs.Prelude.{arith, IsPermutation-append_left, IsPermutation-trans}
use Rattle.flat_list.proofs.Merged.{flat}
use Rattle.flat_list.proofs.Cuts.{none_left}
use Rattle.flat_list.proofs.runs.Cut.end.Goals as goal

pub loop-self-preserved : goal.loop-self-preserved
loop-self-preserved c = IsPermutation-trans _ _ _ c.loop-self.invariant c.in_ok-pass_last.ensures.moved

pub returns-clause-moved : goal.returns-clause-moved
returns-clause-moved c =
    IsPermutation-trans _ _ _ c.loop-self.invariant (IsPermutation-append_left c.loop-self.self.waiting _ _ c.in_ok-end.ensures.moved)

pub returns-clause-all : goal.returns-clause-all
returns-clause-all c =
    none_left (flat c.end.new.self.runs.items) c.end.new.self.piece c.loop-self.self.waiting c.in_ok-end.ensures.empty
    (omega (arith, c.len.ensures, c.loop-self-test.false))
