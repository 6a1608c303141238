use Rattle.tree_dup.proofs.Prelude.{rules, arith, ◌≡◌, ap, subst, ◌∙◌, Err, ShowsWhole, Changed}
use Rattle.tree_dup.proofs.Fed.{count_more, fed_more, fed_none, hashed, not_short}
use Rattle.tree_dup.proofs.hashing.read_hash.Goals as goal

pub loop-at-init : goal.loop-at-init
loop-at-init g c = record {
  inside = omega arith;
  fed = fed_none (g.R.Tree.tree c.args.reader.now) c.args.path.now c.args.size _ c.default-hasher.ensures;
  same = search rules;
  count = search rules;
  whole = λ h. absurd (omega (arith, h));
  room = search rules;
}

pub loop-at-preserved : goal.loop-at-preserved
loop-at-preserved g c = record {
  inside = omega (arith, c.piece-room.ensures.is);
  fed = fed_more (g.R.Tree.tree c.args.reader.now) (g.R.Tree.tree c.loop-at.reader) c.args.path.now c.args.size c.loop-at.at c.piece-room.result
      c.loop-at.hasher c.hash_piece.new.hasher c.loop-at.invariant.same (omega arith)
      (omega (arith, c.piece-room.ensures.is, c.loop-at.invariant.room, c.requires.room))
      c.loop-at.invariant.fed c.in_default.ensures.fed;
  same = c.in_default.ensures.same ∙ c.loop-at.invariant.same;
  count = count_more 0 _ _ _ c.loop-at.invariant.count c.in_default.ensures.count;
  whole = λ h. c.in_default.ensures.whole;
  room = search rules;
}

pub returns-clause-told : goal.returns-clause-told
returns-clause-told g c =
    hashed (g.R.Tree.tree c.args.reader.now) c.args.path.now c.args.size c.loop-at.at c.loop-at.hasher c.finish.result (omega arith)
    c.loop-at.invariant.fed c.finish.ensures

pub returns-clause-whole : goal.returns-clause-whole
returns-clause-whole g c = λ some.
    let i = c.loop-at.invariant in
    let all : c.loop-at.at ≡ c.args.size = omega (arith, i.inside) in
    subst (λ n. ShowsWhole g.R.Tree.gives n c.args.path.now) all (i.whole (omega (arith, all, some)))

pub returns-in-Err-clause-changed : goal.returns-in-Err-clause-changed
returns-in-Err-clause-changed g c = λ e.
    not_short (g.R.Tree.tree c.args.reader.now) (g.R.Tree.tree c.loop-at.reader) c.args.path.now c.args.size c.loop-at.at c.piece-room.result
    c.loop-at.invariant.same (omega (arith, c.piece-room.ensures.is)) (c.in-Err.ensures.short (ap Err (let w : c.in-Err.why ≡ Changed = cc in w)))

pub returns-in-Err-clause-empty : goal.returns-in-Err-clause-empty
returns-in-Err-clause-empty g c = λ z. absurd (omega (arith, z))
