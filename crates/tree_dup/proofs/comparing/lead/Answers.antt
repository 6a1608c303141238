use Rattle.tree_dup.proofs.Prelude.{rules, ◌+◌, refl, ap, Err, false≢true, Missed}
use Rattle.tree_dup.proofs.Gone.{moved_none, moved_read, moved_to, rose_keeps}
use Rattle.tree_dup.proofs.Parted.{if_any}
use Rattle.tree_dup.proofs.Stood.{leads, leads_not, missed_stands}
use Rattle.tree_dup.proofs.comparing.lead.Goals as goal

pub returns-then-not-is_alike : goal.returns-then-not-is_alike
returns-then-not-is_alike g c = record {
  moved = moved_none g.R.Tree.tree g.R.Tree.count g.R.Tree.gives c.args.reader.now c.args.file.now;
  told = if_any (g.R.Tree.tree c.args.reader.now) _ (λ tree there bytes h. h);
  filled = λ e. absurd (false≢true e);
  leads = search rules;
  others = λ h. h;
}

pub returns-in-Ok : goal.returns-in-Ok
returns-in-Ok g c = record {
  moved = moved_read g.R.Tree.tree g.R.Tree.count g.R.Tree.gives c.args.reader.now c.fill.new.reader c.args.file.now c.fill.ensures.same c.fill.ensures.count;
  told = if_any (g.R.Tree.tree c.args.reader.now) _ (λ tree there bytes h. h);
  filled = λ e. leads (g.R.Tree.tree c.args.reader.now) c.args.file.now c.args.at c.args.room c.fill.new.into (search rules)
      (search rules) c.in-Ok.ensures.told;
  leads = search rules;
  others = λ h. h;
}

pub returns-in-Err : goal.returns-in-Err
returns-in-Err g c = record {
  moved = moved_to g.R.Tree.tree g.R.Tree.count g.R.Tree.gives c.args.reader.now c.fill.new.reader c.args.file.now (Missed c.in-Err.why) (search rules)
      c.in-Err.ensures.same (rose_keeps c.in-Err.why _ _ c.in-Err.ensures.count (λ e. c.in-Err.ensures.cause (ap Err e))) c.in-Err.ensures.shows;
  told = leads_not (g.R.Tree.tree c.args.reader.now) c.args.file.now c.args.at (c.args.at + c.args.room) c.in-Err.why c.requires.inside
      (missed_stands (g.R.Tree.tree c.args.reader.now) c.args.file.now.path (c.args.at + c.args.room) c.in-Err.why (λ e. search
      (rules, c.in-Err.ensures.short (ap Err e))));
  filled = λ e. absurd (false≢true e);
  leads = refl;
  others = λ h. refl;
}
