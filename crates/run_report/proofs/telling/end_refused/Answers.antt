use Rattle.run_report.proofs.Prelude.{sym, subst, ◌∙◌, stream_of, ToldRefusal}
use Rattle.run_report.proofs.telling.end_refused.Goals as goal

pub returns-in-Some-clause-told : goal.returns-in-Some-clause-told
returns-in-Some-clause-told g c =
    let before = stream_of g.E.Sink c.args.notes.now in
    let after = stream_of g.E.Sink c.end_by.new.notes in
    subst (λ o. ToldRefusal o c.end_by.result before after) (sym c.in-Some.is ∙ c.refusal.ensures) c.end_by.ensures.told
