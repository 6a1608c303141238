use Rattle.sum_tree.proofs.Prelude.{◌≡◌, arith, raised_by}
use Rattle.sum_tree.proofs.Seats.{raise_done}
use Rattle.sum_tree.proofs.plain.PlainSumsSums.raise.Goals as goal

pub returns-clause-mine : goal.returns-clause-mine
returns-clause-mine c =
    let risen : c.min-seat-inside.result ≡ raised_by c.args.by c.seat.inside.count =
    (let sum = c.saturating_add.ensures in let least = c.min-seat-inside.ensures in omega arith) in
    (raise_done c.args.self.now c.write.new.self c.args.seat.now _ c.args.by c.min-seat-inside.result c.requires.seat c.requires.counting
    c.seat.view_is risen c.write.ensures).mine

pub returns-clause-others : goal.returns-clause-others
returns-clause-others c =
    let risen : c.min-seat-inside.result ≡ raised_by c.args.by c.seat.inside.count =
    (let sum = c.saturating_add.ensures in let least = c.min-seat-inside.ensures in omega arith) in
    (raise_done c.args.self.now c.write.new.self c.args.seat.now _ c.args.by c.min-seat-inside.result c.requires.seat c.requires.counting
    c.seat.view_is risen c.write.ensures).others
