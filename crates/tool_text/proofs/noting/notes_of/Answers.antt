use Rattle.tool_text.proofs.Prelude.{arith, ◌≡◌, ◌∙◌, ap, sym, common_steps, Summary}
use Rattle.tool_text.proofs.Noted.{length-notes_of, no_notes}
use Rattle.tool_text.proofs.noting.notes_of.Goals as goal

pub returns-clause-count : goal.returns-clause-count
returns-clause-count c = grind (arith, common_steps, length-notes_of c.args.list.now)

pub returns-then-summary-eq0-clause-notes : goal.returns-then-summary-eq0-clause-notes
returns-then-summary-eq0-clause-notes c =
    let none : c.summary.result.failed ≡ 0 = omega (arith, c.if-summary-eq0.true) in
    c.new-notes.ensures.items ∙ no_notes c.args.list.now (ap (λ (s : Summary). s.failed) (sym c.summary.ensures) ∙ none)
