use Rattle.range_copy.proofs.Prelude.{◌∙◌, sym}
use Rattle.range_copy.proofs.Noted.{noted_done, noted_more}
use Rattle.range_copy.proofs.failing.note.Goals as goal

pub returns-then-is_done : goal.returns-then-is_done
returns-then-is_done c rows are =
    noted_done c.args.pairs.now rows c.args.failed.now.set.keys c.args.path.now c.args.fate (sym c.is_done.ensures ∙ c.if-is_done.true) are

pub returns : goal.returns
returns c rows are =
    noted_more c.args.pairs.now rows c.args.failed.now.set.keys c.add.new.self.set.keys c.args.path.now c.in-Some.target c.args.fate
    (sym c.is_done.ensures ∙ c.if-is_done.false) (sym c.in_ok-target.ensures.told ∙ c.in-Some.is) c.in_ok-add.ensures are
