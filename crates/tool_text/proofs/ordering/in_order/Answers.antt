use Rattle.tool_text.proofs.Prelude.{rules, is_lt, eq_by_cmp, dedup_same, ranks_by, answers_always, Note, note_cmp}
use Rattle.tool_text.proofs.NotesCompared.{note_total}
use Rattle.tool_text.proofs.NotesOrdered.{sorted_once}
use Rattle.tool_text.proofs.ordering.in_order.Goals as goal

pub returns : goal.returns
returns c =
    let sorted = c.sort_by.new.self.items in
    let kept = c.dedup_by.new.self.items in
    sorted_once c.args.notes.items sorted kept c.sort_by.ensures.permutation
    (c.in_ok-sort_by.ensures.sorted (λ (x y : Note). is_lt (note_cmp x y))
    (ranks_by note_total (λ (n : Note). n)) (answers_always _ _ _ (λ f a r f' k. search rules)))
    (dedup_same _ (eq_by_cmp note_cmp) _ (λ x y b f x' y' k. search rules) sorted kept c.dedup_by.ensures.filtered)
