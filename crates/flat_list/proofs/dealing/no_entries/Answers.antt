use Rattle.flat_list.proofs.Prelude.{[], ◌∙◌, dealt}
use Rattle.flat_list.proofs.Dealt.{listed_same}
use Rattle.flat_list.proofs.dealing.no_entries.Goals as goal

pub loop-preserved : goal.loop-preserved
loop-preserved c = c.in_ok-push.ensures.items
    ∙ listed_same (λ j. dealt c.args.n j []) c.loop.pieces.items c.make.result c.loop.counter c.loop.invariant c.make.ensures
