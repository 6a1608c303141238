use Rattle.flat_list.proofs.Prelude.{rules, ◌≡◌, ◌∙◌, ◌++◌, ap}
use Rattle.entry_pages.specs.declared.entries.Mark.TheVariants as marks
use Rattle.flat_list.proofs.Encoded.{nothing_noted}
use Rattle.flat_list.proofs.encoding.put_notes.Goals as goal

pub returns-then-far-eq0-clause-text : goal.returns-then-far-eq0-clause-text
returns-then-far-eq0-clause-text c =
    let fine : c.args.mark ≡ marks.Fine = search rules in
    c.in_ok-extend_from_slice.ensures.items
    ∙ ap (λ notes. c.args.text.now.items ++ notes) (nothing_noted c.args.mark c.args.unnamed c.args.far fine (search rules) (search rules))
