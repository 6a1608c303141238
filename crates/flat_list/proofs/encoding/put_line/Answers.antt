use Rattle.flat_list.proofs.Prelude.{rules, ◌∙◌, ap, [], ◌∷◌, ◌++◌, decimal, escape, size_by, time_of, kind_by, kind_word, time_word, mark_word, IsWritten}
use Rattle.flat_list.proofs.Encoded.{words_joined}
use Rattle.flat_list.proofs.encoding.put_line.Goals as goal

pub returns-clause-text : goal.returns-clause-text
returns-clause-text c =
    let e = c.args.entry.now in
    let notes = mark_word e.mark ++ 32 ∷ (decimal e.unnamed ++ 32 ∷ (decimal e.far ++ 32 ∷ [])) in
    c.in_ok-push.ensures.items ∙ ap (λ t. t ++ 10 ∷ [])
    (c.in_ok-put_escaped.ensures.ok ∙ ap (λ t. t ++ escape e.path)
    (c.in_ok-put_notes.ensures.text ∙ ap (λ t. t ++ notes) c.in_ok-put_stat.ensures.text))
    ∙ words_joined (kind_word (kind_by e.stat)) (decimal (size_by e.stat)) (time_word (time_of e.stat)) (mark_word e.mark) (decimal e.unnamed)
    (decimal e.far) (escape e.path) c.args.text.now.items

pub returns-clause-told : goal.returns-clause-told
returns-clause-told c =
    let made : IsWritten c.args.entry.now = record {
      path = search rules;
      utf8 = search rules;
      size = c.in_ok-put_stat.ensures.size;
      time = c.in_ok-put_stat.ensures.time;
      unnamed = c.in_ok-put_notes.ensures.unnamed;
      far = c.in_ok-put_notes.ensures.far;
    } in
    made
