use Rattle.flat_list.proofs.Prelude.{held_by}
use Rattle.flat_list.proofs.Cuts.{moved}
use Rattle.flat_list.proofs.runs.Cut.pass_last.Goals as goal

pub returns-clause-moved : goal.returns-clause-moved
returns-clause-moved c =
    let cut = c.args.self.now in
    moved (held_by cut.pieces) (held_by c.put.new.self) cut.waiting c.drop_last.new.self c.in-Some.last.now c.in-Some.ensures.some c.in_ok-put.ensures
    c.drop_last.ensures
