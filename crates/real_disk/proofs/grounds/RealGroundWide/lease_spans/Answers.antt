use Rattle.real_disk.proofs.Prelude.{◌≡◌, ap, sym, subst, ◌∙◌, map, All, pieces, count_of, piece_of, untold}
use Rattle.real_disk.proofs.Spanning.{blank_holds, blank_pieces, blank_zero, on_err, seen_same}
use Rattle.real_disk.proofs.grounds.RealGroundWide.lease_spans.Goals as goal

pub returns-in_err-lend-clause-memory : goal.returns-in_err-lend-clause-memory
returns-in_err-lend-clause-memory g c =
    on_err _ c.from_residual-in_err-lend.result
    (seen_same c.lend_file.new.self c.self.inside.writer c.self.inside.lent c.lend.new.self c.self.inside.cut c.lend_file.ensures c.in_err-lend.ensures.err
    ∙ c.self.view_is)

pub returns-clause-pieces : goal.returns-clause-pieces
returns-clause-pieces g c = ap (map piece_of) c.in_ok-spans.ensures ∙ blank_pieces (pieces c.args.path.now c.args.cuts.now)

pub returns-clause-holds : goal.returns-clause-holds
returns-clause-holds g c = ap (map untold) c.in_ok-spans.ensures ∙ blank_holds (pieces c.args.path.now c.args.cuts.now)

pub returns-clause-zero : goal.returns-clause-zero
returns-clause-zero g c =
    subst (All (λ span. count_of span ≡ 0)) (sym c.in_ok-spans.ensures) (blank_zero (pieces c.args.path.now c.args.cuts.now))
