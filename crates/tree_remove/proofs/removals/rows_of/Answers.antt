use Rattle.tree_remove.proofs.Prelude.{rules, ◌≡◌, ◌∙◌, ◌∷◌, ◌++◌, [], length, ap, arith, slice_get, into_iter_items, into_iter_len, nil_from_length}
use Rattle.tree_remove.proofs.Rows.{at_end, one_more}
use Rattle.tree_remove.proofs.removals.rows_of.Goals as goal

pub fate-fate-requires : goal.fate-fate-requires
fate-fate-requires c =
    let i = c.loop-item.invariant in
    let next : into_iter_items c.loop-item.item-iterator ≡ c.in-Some.item ∷ into_iter_items c.next.new.self = search rules in
    omega (arith, c.len-in-loop-item.ensures, c.loop-item.rows.ok.0, i.so_far.len, ap length next)

pub loop-item-preserved : goal.loop-item-preserved
loop-item-preserved c =
    let i = c.loop-item.invariant in
    let next : into_iter_items c.loop-item.item-iterator ≡ c.in-Some.item ∷ into_iter_items c.next.new.self = search rules in
    let left : into_iter_len c.next.new.self ≡ length (into_iter_items c.next.new.self) = search rules in
    let place : length c.loop-item.rows.items ≡ c.len-in-loop-item.result = omega (arith, c.len-in-loop-item.ensures, c.loop-item.rows.ok.0) in
    record {
      left = left;
      so_far = one_more c.args.items.items (into_iter_items c.loop-item.item-iterator) (into_iter_items c.next.new.self) c.args.fates.now
          c.loop-item.rows.items c.push.new.self.items c.in-Some.item c.fate-fate.result next (ap (slice_get c.args.fates.now) place ∙ c.fate-fate.ensures)
          (c.in_ok-push.ensures.items ∙ ap (λ p. c.loop-item.rows.items ++ (p, c.fate-fate.result) ∷ []) c.path_of.ensures) i.so_far;
    }

pub returns : goal.returns
returns c =
    let i = c.loop-item.invariant in
    let end = c.in-None.ensures.steps.0 in
    let none = nil_from_length (into_iter_items c.loop-item.item-iterator)
    (let ok = c.loop-item.item-iterator.rest.ok.0 in let l = i.left in omega arith) in
    at_end c.args.items.items (into_iter_items c.loop-item.item-iterator) c.args.fates.now c.loop-item.rows.items none i.so_far
