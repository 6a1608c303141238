use Rattle.range_copy.proofs.Prelude.{◌∙◌, ap, sym, Some, slice_get-get_or, below_of, grafted, if_ok}
use Rattle.range_copy.proofs.Noted.{first_fits, first_pair}
use Rattle.range_copy.proofs.failing.target_of.Goals as goal

pub returns-then-is_within-clause-told : goal.returns-then-is_within-clause-told
returns-then-is_within-clause-told c =
    let pairs = c.args.pairs.now in
    let path = c.args.path.now in
    let k = c.loop-pair.pair-index in
    let pair = c.pair-item.result in
    let at = slice_get-get_or pairs k pair c.loop-pair-test.true ∙ ap Some (sym c.pair-item.is) in
    let first = first_pair pairs path k pair c.loop-pair.invariant at (sym c.is_within.ensures ∙ c.if-is_within.true) in
    if_ok _ _ c.moved.result (λ target told. told ∙ first_fits pairs path (grafted pair.target (below_of path pair.source)) first) c.moved.ensures.told
