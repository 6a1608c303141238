use Rattle.run_entries.proofs.Prelude.{subst, sym, IfErr, side_of, output_of, StopsSaving}
use Rattle.run_entries.proofs.Saved.{if_one_stopped}
use Rattle.run_entries.proofs.saving.save_list.Goals as goal

pub returns-clause-stopped : goal.returns-clause-stopped
returns-clause-stopped g c =
    let before = side_of g.G.Plot c.args.files.now in
    let after = side_of g.G.Plot c.save_at.new.files in
    subst (λ o. IfErr c.save_at.result (StopsSaving (output_of o c.args.list.now) before after)) (sym c.in-Some.is)
    (if_one_stopped c.save_at.result _ before after c.save_at.ensures.count.kept c.save_at.ensures.stopped)
