use Rattle.copy_report.proofs.Prelude.{◌∙◌, ap, length, subst, AreInOrder, note_lines, side_of, copied_line, copy_failures}
use Rattle.copy_report.proofs.Steps.{items_are}
use Rattle.copy_report.proofs.acting.copy_and_tell.Goals as goal

pub returns-clause-told : goal.returns-clause-told
returns-clause-told g c =
    let pairs = c.args.pairs.now in
    let list = c.args.list.now in
    let before = side_of g.G.Plot c.args.files.now in
    let after = side_of g.G.Plot c.copy_entries.new.files in
    let acted = c.in_ok-outcome.ensures in
    let rows = c.in_ok-outcome.outcome.0 in
    let notes = c.in_ok-notes.notes.items in
    let texts = c.in_ok-report.ensures in
    record {
      rows = rows;
      copies = acted.copies;
      notes = notes;
      names = subst (λ rs. AreInOrder (copy_failures list rs) notes) (c.deref.ensures.value ∙ c.into_rows-rows.ensures) c.in_ok-notes.ensures;
      prints = texts.out ∙ (λ i. copied_line ((c.copied-copied.ensures ∙ acted.copied) i)
          ((ap length (c.deref-2.ensures.value ∙ c.into_rows-rows.ensures) ∙ items_are pairs list rows before after acted.copies) i)
          ((c.bytes-bytes.ensures ∙ acted.bytes) i) (length (c.deref-3.ensures.value i)));
      tells = texts.notes ∙ ap note_lines c.deref-3.ensures.value;
      counts = texts.failed ∙ ap length c.deref-3.ensures.value;
    }
