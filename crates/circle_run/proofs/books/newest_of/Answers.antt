use Rattle.circle_run.proofs.Prelude.{arith}
use Rattle.circle_run.proofs.Numbers.{newest_at}
use Rattle.circle_run.proofs.books.newest_of.Goals as goal

pub returns-else-count-eq0 : goal.returns-else-count-eq0
returns-else-count-eq0 c = newest_at 0 c.args.numbers.now (omega (arith, c.if-count-eq0.false))
