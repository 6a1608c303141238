use Rattle.files_mem.proofs.Prelude.{pieces}
use Rattle.files_mem.proofs.Spanning.{lent_pieces, lent_zeros, lent_uncounted}
use Rattle.files_mem.proofs.grounds.MemGroundWide.lease_spans.Goals as goal

pub returns-clause-pieces : goal.returns-clause-pieces
returns-clause-pieces c = lent_pieces (λ v. v.items) c.cut.result _ _ (pieces c.args.path.now c.args.cuts.now) c.cut.ensures.spans

pub returns-clause-holds : goal.returns-clause-holds
returns-clause-holds c = lent_zeros (λ v. v.items) c.cut.result c.args.self.now.files _ (pieces c.args.path.now c.args.cuts.now) c.cut.ensures.spans

pub returns-clause-zero : goal.returns-clause-zero
returns-clause-zero c = lent_uncounted (λ v. v.items) c.cut.result _ _ (pieces c.args.path.now c.args.cuts.now) c.cut.ensures.spans
