use Rattle.range_copy.proofs.Made.{made}
use Rattle.range_copy.proofs.Showing.{made_as}
use Rattle.range_copy.proofs.placing.made.Goals as goal

pub returns-in-Ok-clause-told : goal.returns-in-Ok-clause-told
returns-in-Ok-clause-told g c = made (g.G.Plot.area c.args.ground.now) c.args.path.now _ _ c.in-Ok.ensures.told

pub returns-in-Err-clause-shown : goal.returns-in-Err-clause-shown
returns-in-Err-clause-shown g c =
    made_as g.G.Plot.gives c.args.path.now c.in-Err.refused c.refused_as.result c.args.ground.now c.make_file.new.self c.refused_as.ensures
    c.in-Err.ensures.given
