use Rattle.range_copy.proofs.Prelude.{arith, ap, length, subst, AreLoads, AreFilled}
use Rattle.range_copy.proofs.Loaded.{pieces_many}
use Rattle.range_copy.proofs.Worked.{many_left}
use Rattle.range_copy.proofs.spanning.fill_spans.Goals as goal

pub load_all-requires-clause-room : goal.load_all-requires-clause-room
load_all-requires-clause-room g c =
    let many = pieces_many g.S.Span.piece c.args.target.now c.args.cuts.now c.args.spans.items c.requires.cuts c.requires.pieces in
    omega (arith, many, c.requires.room, c.args.spans.ok.0)

pub load_all-requires-clause-number : goal.load_all-requires-clause-number
load_all-requires-clause-number g c =
    pieces_many g.S.Span.piece c.args.target.now c.args.cuts.now c.args.spans.items c.requires.cuts c.requires.pieces

pub fill_all-requires-clause-loads : goal.fill_all-requires-clause-loads
fill_all-requires-clause-loads g c κs within =
    subst (λ n. AreLoads g.S.Span.piece n c.load_all.new.loads.items) c.requires.whole
    (c.load_all.ensures.loads c.args.target.now c.requires.pieces)

pub fill_all-requires-clause-room : goal.fill_all-requires-clause-room
fill_all-requires-clause-room g c κs within =
    let many = pieces_many g.S.Span.piece c.args.target.now c.args.cuts.now c.args.spans.items c.requires.cuts c.requires.pieces in
    omega (arith, many, many_left c.load_all.new.loads.items, ap length c.load_all.ensures.spans, c.requires.done_room)

pub returns-clause-filled : goal.returns-clause-filled
returns-clause-filled g c =
    subst (λ spans. AreFilled g.T.Tree.tree g.S.Span.piece g.S.Span.holds c.args.source.now c.args.total c.args.fillers.now spans
    c.fill_all.new.fillers c.fill_all.new.done.items) c.load_all.ensures.spans c.fill_all.ensures.filled
