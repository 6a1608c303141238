use Rattle.circle_run.proofs.Prelude.{arith, sym, ap, ◌∙◌, get_or, dite, ℕ_discrete, get_or_read}
use Rattle.circle_run.specs.declared.ranks.RankState.{RankState}
use Rattle.circle_run.proofs.many_hosts.any_lost.Goals as goal

pub loop-k-preserved : goal.loop-k-preserved
loop-k-preserved g c = λ j d h. dite (ℕ_discrete j c.loop-k.k)
    (λ e.
    let ranks = c.args.ranks.now in
    let r = c.index-ranks-k.result in
    ap (λ i. (get_or ranks i d).book.lost) e
    ∙ ap (λ (x : RankState _ _ _). x.book.lost)
    (sym (get_or_read ranks c.loop-k.k r (omega (arith, c.loop-k-test.true)) c.index-ranks-k.is d))
    ∙ sym c.is_lost.ensures ∙ c.if-is_lost.false)
    (λ ne. c.loop-k.invariant j d (omega (arith, h, ne)))
