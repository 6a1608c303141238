use Rattle.files_mem.proofs.Prelude.{map, ap, ◌∙◌, sym, subst, ◌≡◌, All, pieces, Spanned, piece_of, held_by}
use Rattle.files_mem.proofs.Spanning.{blank_pieces, blank_hides, blank_zero}
use Rattle.files_mem.proofs.blind.UntoldMemGroundWide.lease_spans.Goals as goal

pub returns-in-Ok-clause-pieces : goal.returns-in-Ok-clause-pieces
returns-in-Ok-clause-pieces c = ap (map piece_of) c.in-Ok.ensures.spans ∙ blank_pieces _ _ (pieces c.args.path.now c.args.cuts.now)

pub returns-in-Ok-clause-holds : goal.returns-in-Ok-clause-holds
returns-in-Ok-clause-holds c = ap (map held_by) c.in-Ok.ensures.spans ∙ blank_hides _ (pieces c.args.path.now c.args.cuts.now)

pub returns-in-Ok-clause-zero : goal.returns-in-Ok-clause-zero
returns-in-Ok-clause-zero c =
    subst (All (λ (s : Spanned). s.count ≡ 0)) (sym c.in-Ok.ensures.spans) (blank_zero _ _ (pieces c.args.path.now c.args.cuts.now))
