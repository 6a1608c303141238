use Rattle.tree_dup.proofs.Prelude.{rules}
use Rattle.tree_dup.proofs.Gone.{moved_none, moved_to}
use Rattle.tree_dup.proofs.Stood.{follows, idles}
use Rattle.tree_dup.proofs.comparing.follow.Goals as goal

pub returns-then-not-is_alike : goal.returns-then-not-is_alike
returns-then-not-is_alike g c = record {
  moved = moved_none g.R.Tree.tree g.R.Tree.count g.R.Tree.gives c.args.reader.now c.args.file.now;
  told = idles (g.R.Tree.tree c.args.reader.now) c.args.file.now c.args.at c.args.room c.args.ours.now (search rules);
}

pub returns : goal.returns
returns g c = record {
  moved = moved_to g.R.Tree.tree g.R.Tree.count g.R.Tree.gives c.args.reader.now c.standing-file.new.reader c.args.file.now c.standing-file.result
      (search rules)
      c.standing-file.ensures.same c.standing-file.ensures.counted c.standing-file.ensures.shows;
  told = follows (g.R.Tree.tree c.args.reader.now) c.args.file.now c.standing-file.result c.args.at c.args.room c.args.ours.now (search rules) c.requires.inside
      c.standing-file.ensures.told;
}
