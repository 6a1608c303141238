use Rattle.flat_list.proofs.Prelude.{sym, subst, List, ℕ, Option, Bor, IfNone, Version, IsRefused}
use Rattle.flat_list.proofs.Decoded.{header_none, header_other}
use Rattle.flat_list.proofs.decoding.behind_header.Goals as goal

pub returns-in_err-text-clause-none : goal.returns-in_err-text-clause-none
returns-in_err-text-clause-none c = subst (λ (o : Option (Version × Bor (List ℕ))). IfNone o (IsRefused c.args.bytes.now 1)) (sym c.from_residual.ensures)
    (header_none c.args.bytes.now (sym c.in_err-text.ensures))

pub returns-in-None-clause-none : goal.returns-in-None-clause-none
returns-in-None-clause-none c =
    header_other c.args.bytes.now c.in_ok-text.text.now c.in_ok-text.rest.now (sym c.in_ok-text.ensures) c.in-None.ensures.none
