use Rattle.shared_reads.proofs.Prelude.{HasRoom, IsWorked}
use Rattle.shared_reads.proofs.sharing.Worker.work.Given as goal

abbrev pub invariant-loop : goal.invariant-loop
invariant-loop g l = record {
  worked : IsWorked g.R.Tree.tree g.R.Tree.count (g.J.Job.told l.job) g.J.Job.faults l.fn.self l.self;
  room : HasRoom l.self.desk;
}
