use Rattle.range_copy.proofs.Prelude.{◌∙◌, rules, removed_only}
use Rattle.range_copy.proofs.Made.{replaced, stands_still}
use Rattle.range_copy.proofs.Showing.{freed_cause, made_again, not_removed}
use Rattle.range_copy.proofs.placing.replaced.Goals as goal

pub made-requires-clause-stand : goal.made-requires-clause-stand
made-requires-clause-stand g c =
    stands_still (g.G.Plot.area c.args.ground.now) c.args.path.now _ _ c.text.ensures.valid c.requires.open c.remove_file.ensures.tells c.requires.stand
    (removed_only c.args.path.now _ _ c.in-Ok.ensures.told)

pub returns-in-Ok-clause-told : goal.returns-in-Ok-clause-told
returns-in-Ok-clause-told g c =
    replaced c.args.path.now c.made.result c.freed.result c.freed.ensures _ _ _ c.remove_file.ensures.tells
    (removed_only c.args.path.now _ _ c.in-Ok.ensures.told) c.made.ensures.told

pub returns-in-Ok-clause-shown : goal.returns-in-Ok-clause-shown
returns-in-Ok-clause-shown g c =
    made_again g.G.Plot.gives c.args.path.now c.made.result c.freed.result c.remove_file.new.self c.made.new.ground c.freed.ensures
    (record { before = c.args.ground.now; given = c.in-Ok.ensures.given }) c.made.ensures.shown

pub returns-in-Err-clause-shown : goal.returns-in-Err-clause-shown
returns-in-Err-clause-shown g c =
    not_removed g.G.Plot.gives c.args.path.now c.in-Err.refused c.refused_as.result c.args.ground.now c.remove_file.new.self c.refused_as.ensures
    c.in-Err.ensures.named c.in-Err.ensures.given

pub returns-in-Ok-clause-stepped : goal.returns-in-Ok-clause-stepped
returns-in-Ok-clause-stepped g c = record {
  tells = c.made.ensures.stepped.tells ∙ c.remove_file.ensures.tells;
  area = c.made.ensures.stepped.area ∙ c.remove_file.ensures.area;
  count = search rules;
  cause = freed_cause c.made.result c.freed.result (g.G.Plot.count c.args.ground.now) (g.G.Plot.count c.remove_file.new.self)
      (g.G.Plot.count c.made.new.ground) c.freed.ensures c.remove_file.ensures.count.kept c.made.ensures.stepped.cause;
}
