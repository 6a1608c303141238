use Rattle.range_copy.proofs.Prelude.{◌≡◌, subst, sym, take, true, list_any, is_within, all_at, AreFailed}
use Rattle.range_copy.proofs.Noted.{row_at}
use Rattle.range_copy.proofs.failing.failed_targets.Goals as goal

pub note-requires : goal.note-requires
note-requires c =
    let rows = c.args.report.now.0 in
    let at = row_at rows c.loop-k.k c.path.result.now c.fate.result c.path.ensures c.fate.ensures in
    all_at (λ row. list_any (λ pair. is_within row.0 pair.source) c.args.pairs.now ≡ true) rows c.requires c.loop-k.k (c.path.result.now, c.fate.result) at.0

pub loop-k-preserved : goal.loop-k-preserved
loop-k-preserved c =
    let rows = c.args.report.now.0 in
    let at = row_at rows c.loop-k.k c.path.result.now c.fate.result c.path.ensures c.fate.ensures in
    subst (λ so_far. AreFailed c.args.pairs.now so_far c.note.new.failed.set.keys) (sym at.1)
    (c.in_ok-note.ensures (take c.loop-k.k rows) c.loop-k.invariant)
