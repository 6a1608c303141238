use Rattle.checkpoints.proofs.Prelude.{ap}
use Rattle.std.proofs.Common.{Err}
use Rattle.checkpoints.proofs.Removed.{refused_gone, refused_same, removed_gone}
use Rattle.checkpoints.proofs.Stopped.{meant_stops}
use Rattle.checkpoints.proofs.writing.remove_old.Goals as goal

pub returns-in-Ok-clause-gone : goal.returns-in-Ok-clause-gone
returns-in-Ok-clause-gone g c =
    let tree = g.G.Plot.tree in
    removed_gone c.args.path.now (tree c.args.files.now) (tree c.remove_file.new.self) c.in-Ok.ensures.told

pub returns-in-Err-clause-gone : goal.returns-in-Err-clause-gone
returns-in-Err-clause-gone g c =
    let tree = g.G.Plot.tree in
    refused_gone c.args.path.now c.in-Err.refused c.by_refusal.result (tree c.args.files.now) (tree c.remove_file.new.self) c.in-Err.ensures.named
    c.by_refusal.ensures c.in-Err.ensures.told

pub returns-in-Err-clause-same : goal.returns-in-Err-clause-same
returns-in-Err-clause-same g c =
    let tree = g.G.Plot.tree in
    refused_same c.args.path.now c.in-Err.refused c.by_refusal.result (tree c.args.files.now) (tree c.remove_file.new.self) c.in-Err.ensures.told

pub returns-in-Err-clause-stopped : goal.returns-in-Err-clause-stopped
returns-in-Err-clause-stopped g c =
    let count = g.G.Plot.count in
    meant_stops c.in-Err.refused c.args.path.now c.by_refusal.result (count c.args.files.now) (count c.remove_file.new.self) c.by_refusal.ensures
    (λ e. c.in-Err.ensures.cause (ap Err e))
