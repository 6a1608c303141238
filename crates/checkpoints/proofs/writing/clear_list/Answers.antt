use Rattle.checkpoints.proofs.Prelude.{◌≡◌, ◌⊎◌, ◌∙◌, ap, subst, IfErr, IfSome, OnErr, on_ok_weaker, RoseBy, is_root, SameBut, side_of}
use Rattle.run_report.specs.declared.stops.Trouble.TheVariants as trouble
use Rattle.run_report.specs.declared.stops.Stop.TheVariants as stop
use Rattle.checkpoints.proofs.Paths.{list_below}
use Rattle.checkpoints.proofs.Written.{cleared_by}
use Rattle.checkpoints.proofs.writing.clear_list.Goals as goal

pub remove_old-requires-clause-below : goal.remove_old-requires-clause-below
remove_old-requires-clause-below g c = ap is_root c.requires.named ∙ list_below c.args.dir.now

pub returns-clause-cleared : goal.returns-clause-cleared
returns-clause-cleared g c =
    let before = side_of g.G.Plot c.args.files.now in
    let after = side_of g.G.Plot c.remove_old.new.files in
    on_ok_weaker c.remove_old.result
    (cleared_by c.args.dir.now c.args.path.now before after c.requires.named c.remove_old.ensures.tells c.remove_old.ensures.count.kept)
    c.remove_old.ensures.gone

pub returns-clause-same : goal.returns-clause-same
returns-clause-same g c =
    let old = g.G.Plot.tree c.args.files.now in
    let new = g.G.Plot.tree c.remove_old.new.files in
    subst (λ p. OnErr c.remove_old.result (IfSome old (λ files. IfSome new (SameBut p files)))) c.requires.named c.remove_old.ensures.same

pub returns-clause-stopped : goal.returns-clause-stopped
returns-clause-stopped g c =
    let rose = RoseBy 1 (g.G.Plot.count c.args.files.now) (g.G.Plot.count c.remove_old.new.files) in
    subst (λ p. IfErr c.remove_old.result (λ why. (why ≡ stop.OutOfMemory) ⊎ ((why ≡ stop.ListFile trouble.Fault p) × rose))) c.requires.named
    c.remove_old.ensures.stopped
