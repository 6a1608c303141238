use Rattle.sum_tree.proofs.Seats.{refresh_done}
use Rattle.sum_tree.proofs.plain.PlainSumsSums.refresh.Goals as goal

pub returns-clause-mine : goal.returns-clause-mine
returns-clause-mine c =
    (refresh_done c.args.self.now c.write.new.self c.args.seat.now _ c.total-seat-inside.result c.requires.seat c.requires.counting
    c.seat.view_is c.total-seat-inside.ensures c.write.ensures).mine

pub returns-clause-others : goal.returns-clause-others
returns-clause-others c =
    (refresh_done c.args.self.now c.write.new.self c.args.seat.now _ c.total-seat-inside.result c.requires.seat c.requires.counting
    c.seat.view_is c.total-seat-inside.ensures c.write.ensures).others
