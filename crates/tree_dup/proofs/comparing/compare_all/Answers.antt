use Rattle.tree_dup.proofs.Prelude.{rules, arith}
use Rattle.tree_dup.proofs.Gone.{went_nowhere, went_on}
use Rattle.tree_dup.proofs.Classes.{same_length}
use Rattle.tree_dup.proofs.Stood.{sizes_still, divided_first, divided_more, divided_last}
use Rattle.tree_dup.proofs.comparing.compare_all.Goals as goal

pub compare_piece-requires-clause-inside : goal.compare_piece-requires-clause-inside
compare_piece-requires-clause-inside g c = λ k d l.
    let s = sizes_still c.args.size c.args.files.now c.loop-at.files c.loop-at.invariant.went.files c.requires.sizes k d l in
    omega (arith, s, c.piece-room.ensures.is)

pub loop-at-init : goal.loop-at-init
loop-at-init g c = record {
  inside = omega arith;
  went = went_nowhere g.R.Tree.tree g.R.Tree.count g.R.Tree.gives c.args.reader.now c.args.files.now;
  told = divided_first (g.R.Tree.tree c.args.reader.now) c.args.files.now c.new-hasher.result c.requires.alike c.new-hasher.ensures;
  empty = search rules;
  front = λ d l o. o;
  ours = search rules;
  theirs = search rules;
}

pub loop-at-preserved : goal.loop-at-preserved
loop-at-preserved g c =
    let i = c.loop-at.invariant in
    let e = c.compare_piece.ensures in
    record {
      inside = omega (arith, c.piece-room.ensures.is);
      went = went_on g.R.Tree.tree g.R.Tree.count g.R.Tree.gives c.args.reader.now c.loop-at.reader c.compare_piece.new.reader c.args.files.now c.loop-at.files
          c.compare_piece.new.files i.went e.went;
      told = divided_more (g.R.Tree.tree c.args.reader.now) (g.R.Tree.tree c.loop-at.reader) c.loop-at.at c.piece-room.result c.args.files.now c.loop-at.files
          c.compare_piece.new.files c.loop-at.hasher c.compare_piece.new.hasher i.went.same i.went.files i.told e.told;
      empty = λ z. absurd (omega (arith, z, c.piece-room.ensures.some));
      front = λ d l o. e.front d (omega (arith, same_length c.args.files.now c.loop-at.files i.went.files)) (i.front d l o);
      ours = search rules;
      theirs = search rules;
    }

pub returns : goal.returns
returns g c =
    let i = c.loop-at.invariant in
    record {
      went = i.went;
      settled = divided_last (g.R.Tree.tree c.args.reader.now) c.args.size c.loop-at.at c.args.files.now c.loop-at.files c.loop-at.hasher c.finalize.result
          (omega arith) i.went.files c.requires.sizes c.finalize.ensures i.told;
      empty = λ z. i.empty (omega (arith, z, i.inside));
      front = i.front;
    }
