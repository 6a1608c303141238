use Rattle.tree_sync.proofs.Prelude.{◌≡◌, ◌+◌, ◌&&◌, ◌++◌, ◌∷◌, [], ◌∙◌, List, ap, filter, length, sym, subst, not, is_some, arith, cond, take_all, below_of}
use Rattle.tree_sync.proofs.Prelude.{Entry, no_more, IsPassed, side, IsHere, filtered_more, here, next_below, sought_here, step, taken, whole, masks_of}
use Rattle.tree_sync.proofs.Prelude.{row_paths, agrees, has_other, is_copied, is_kept, row_at}
use Rattle.tree_sync.proofs.Cursor.{counted_more, few_more}
use Rattle.tree_sync.proofs.Kept.{masks_more}
use Rattle.tree_sync.proofs.dividing.divided.Goals as goal
use Rattle.tree_sync.proofs.dividing.divided.Goals.{After-entry-entry}

pub agrees_at-agrees-requires : goal.agrees_at-agrees-requires
agrees_at-agrees-requires c = c.seek_row-here.ensures.inside

-- the pass came to the entry
come : (c : After-entry-entry) → IsHere c.args.source.now c.loop-cursor.cursor.1 c.entry-entry.result.now c.advance.new.self
come c = here c.args.source.now c.loop-cursor.cursor c.advance.new.self c.entry-entry.result.now c.in_ok-advance.field-0
    c.loop-cursor.invariant.of_list c.in_ok-advance.ensures.passed c.if-branch.true c.entry-entry.ensures.at

pub loop-cursor-preserved : goal.loop-cursor-preserved
loop-cursor-preserved c =
    let at = come (goal.at.loop-cursor-preserved c).After-entry-entry in
    let old = c.loop-cursor in
    let e = c.entry-entry.result.now in
    let rows = c.args.found.now.rows in
    let here = side c.args.top.now c.args.source.now in
    let agreed : c.agrees_at-agrees.result ≡ agrees e.stat (row_at rows (below_of e.path c.args.top.now)) =
    c.agrees_at-agrees.ensures ∙ ap (agrees e.stat) (sym c.seek_row-here.ensures.row ∙ ap (row_at rows) c.in_ok-below.ensures)
    in
    let next = step _ _ _ _ at in
    record {
      of_list = whole _ _ _ _ at;
      inside = omega (arith, next, at.inside);
      few = few_more (is_some e.stat && c.agrees_at-agrees.result) old.kept c.with_kept-kept.result old.cursor.1 _ c.with_kept-kept.ensures
          old.invariant.few next;
      kept = counted_more (is_kept here rows) _ old.kept c.with_kept-kept.result _ _ _
          (is_some e.stat && c.agrees_at-agrees.result) at old.invariant.kept (λ i. is_some e.stat && agreed i) c.with_kept-kept.ensures;
      copied = filtered_more (is_copied here rows) _ old.copied c.add_wanting.new.list _ _ _
          (is_some e.stat && not c.agrees_at-agrees.result) at old.invariant.copied (λ i. is_some e.stat && not (agreed i)) c.in_ok-add_wanting.ensures;
      masks = masks_more c.args.top.now _ _ e old.masks.items c.add_mask.new.masks.items (taken _ _ _ _ at)
          old.invariant.masks (c.in_ok-add_mask.ensures ∙ ap (λ b. old.masks.items ++ cond (has_other e) (b ∷ []) []) c.in_ok-below.ensures);
      next = next_below c.below_keeps_order.ensures c.args.top.now _ _ _ _ (row_paths rows) c.seek_row-here.result.0 at c.requires.side.ascends
          c.requires.side.within (subst (IsPassed (row_paths rows) c.seek_row-here.result.0) c.in_ok-below.ensures c.seek_row-here.ensures.passed);
    }

pub seek_row-here-requires-clause-passed : goal.seek_row-here-requires-clause-passed
seek_row-here-requires-clause-passed c =
    sought_here IsPassed (λ e. below_of e.path c.args.top.now) _ _ _ _ (row_paths c.args.found.now.rows) c.loop-cursor.at _
    (come (goal.at.seek_row-here-requires-clause-passed c).After-entry-entry) c.loop-cursor.invariant.next c.in_ok-below.ensures

pub returns : goal.returns
returns c =
    let list = c.args.source.now in
    let here = side c.args.top.now list in
    let rows = c.args.found.now.rows in
    let i = c.loop-cursor.invariant in
    let over = no_more list c.loop-cursor.cursor c.in_ok-advance.field-0 i.of_list c.in_ok-advance.ensures.answer c.if-branch.false in
    let all = take_all c.loop-cursor.cursor.1 list over in
    record {
      kept = i.kept ∙ ap (λ (es : List Entry). length (filter (is_kept here rows) es)) all;
      copied = i.copied ∙ ap (filter (is_copied here rows)) all;
      masks = i.masks ∙ ap (λ (es : List Entry). masks_of (side c.args.top.now es)) all;
    }
