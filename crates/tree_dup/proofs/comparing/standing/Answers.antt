use Rattle.tree_dup.proofs.Prelude.{rules, ap, Err}
use Rattle.tree_dup.proofs.Gone.{rose_keeps}
use Rattle.tree_dup.proofs.Stood.{piece_told, missed_told, whole_counted, whole_shows}
use Rattle.tree_dup.proofs.comparing.standing.Goals as goal

pub returns-in-Err : goal.returns-in-Err
returns-in-Err g c = record {
  told = missed_told (g.R.Tree.tree c.args.reader.now) c.args.path.now c.args.at c.args.room c.args.ours.now c.in-Err.why
      (λ e. search (rules, c.in-Err.ensures.short (ap Err e)));
  same = c.in-Err.ensures.same;
  counted = rose_keeps c.in-Err.why _ _ c.in-Err.ensures.count (λ e. c.in-Err.ensures.cause (ap Err e));
  shows = c.in-Err.ensures.shows;
}

pub returns : goal.returns
returns g c = record {
  told = piece_told (g.R.Tree.tree c.args.reader.now) c.args.path.now c.args.at c.args.room c.args.ours.now c.fill.new.into c.eq.result c.by_bytes.result
      (search rules) (search rules) c.by_bytes.ensures c.in_default.ensures.told;
  same = search rules;
  counted = whole_counted c.eq.result c.by_bytes.result c.by_bytes.ensures _ _ (search rules);
  shows = whole_shows g.R.Tree.gives c.args.path.now c.eq.result c.by_bytes.result c.by_bytes.ensures;
}
