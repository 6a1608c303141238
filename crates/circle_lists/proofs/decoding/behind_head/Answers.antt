use Rattle.circle_lists.proofs.Prelude.{sym, subst, IfNone, HeadsNone}
use Rattle.circle_lists.proofs.Decoded.{head_none, head_other}
use Rattle.circle_lists.proofs.decoding.behind_head.Goals as goal

pub returns-in_default-clause-none : goal.returns-in_default-clause-none
returns-in_default-clause-none c =
    head_none (record { bytes = c.args.bytes.now; rank = c.args.rank; known = c.args.known }) c.requires (sym c.in_default.ensures)

pub returns-in-None-clause-none : goal.returns-in-None-clause-none
returns-in-None-clause-none c =
    let none = subst (λ o. IfNone o (HeadsNone c.in-Some.text.now c.args.rank c.args.known)) c.in-None.is c.in_ok-ranks.ensures.none in
    head_other (record { bytes = c.args.bytes.now; rank = c.args.rank; known = c.args.known }) c.in-Some.text.now c.in-Some.rest.now c.requires
    (sym c.in-Some.ensures) none
