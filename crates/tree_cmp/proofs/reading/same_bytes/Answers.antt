use Rattle.tree_cmp.proofs.Prelude.{arith, ◌≡◌, true, subst, sym, ◌∙◌, IfSome, get, PieceTold, goes_on}
use Rattle.tree_cmp.proofs.Pieces.{alike_more, all_alike, more_count}
use Rattle.tree_cmp.proofs.reading.same_bytes.Goals as goal

pub returns-clause-told : goal.returns-clause-told
returns-clause-told g c =
    all_alike (g.R.Tree.tree c.args.reader.now) c.args.left.now c.args.right.now c.args.size c.loop-at.at
    (omega arith) c.loop-at.invariant.alike

pub loop-at-preserved : goal.loop-at-preserved
loop-at-preserved g c =
    let told : IfSome (g.R.Tree.tree c.args.reader.now)
    (λ files. PieceTold (get files c.args.left.now)
    (get files c.args.right.now) c.loop-at.at c.piece-room.result c.same_piece-outcome.result) =
    subst (λ t. IfSome t (λ files.
    PieceTold (get files c.args.left.now) (get files c.args.right.now) c.loop-at.at c.piece-room.result c.same_piece-outcome.result))
    c.loop-at.invariant.same c.same_piece-outcome.ensures.told in
    let on : goes_on c.same_piece-outcome.result ≡ true = sym c.goes_on.ensures ∙ c.if-not-goes_on.false in
    record {
      inside = omega (arith, c.piece-room.ensures.is);
      alike = alike_more (g.R.Tree.tree c.args.reader.now) c.args.left.now c.args.right.now c.loop-at.at c.piece-room.result
          c.same_piece-outcome.result c.loop-at.invariant.alike told on;
      same = c.same_piece-outcome.ensures.same ∙ c.loop-at.invariant.same;
      count = more_count _ _ _ c.same_piece-outcome.result c.loop-at.invariant.count c.same_piece-outcome.ensures.cause;
    }
