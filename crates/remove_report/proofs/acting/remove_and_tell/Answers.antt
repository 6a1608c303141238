use Rattle.remove_report.proofs.Prelude.{◌∙◌, ◌++◌, ap, length, subst, lines_of, AreInOrder, note_lines, removal_notes, removed_line}
use Rattle.remove_report.proofs.acting.remove_and_tell.Goals as goal

pub returns-clause-told : goal.returns-clause-told
returns-clause-told g c =
    let chosen = c.args.chosen.now in
    let named = c.args.named.items in
    let acted = c.in_ok-acted.acted in
    let notes = c.in_ok-notes.notes.items in
    let texts = c.in_ok-report.ensures in
    record {
      rows = acted.rows.items;
      acts = c.in_ok-acted.ensures.acts;
      notes = notes;
      names = subst (λ rs. AreInOrder (named ++ removal_notes rs) notes) c.deref.ensures.value c.in_ok-notes.ensures;
      prints = texts.out ∙ (λ i. lines_of chosen ++ removed_line (c.in_ok-acted.ensures.gone i) (length chosen) (length (c.deref-2.ensures.value i)));
      tells = texts.notes ∙ ap note_lines c.deref-2.ensures.value;
      counts = texts.failed ∙ ap length c.deref-2.ensures.value;
    }
