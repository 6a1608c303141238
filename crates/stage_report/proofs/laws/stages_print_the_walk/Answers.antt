use Rattle.stage_report.proofs.Printing.{stages_print_the_walk}
use Rattle.stage_report.proofs.laws.stages_print_the_walk.Goals as goal

pub returns : goal.returns
returns c =
    stages_print_the_walk
    (record {
      one_roots = c.roots_are_unique.ensures;
      one_kept = c.checkpoints_are_one.ensures;
      restart = c.restart_finds_the_walk.ensures;
      sorts = c.sorts_are_unique.ensures;
      notes = c.order_is_unique.ensures;
    })
