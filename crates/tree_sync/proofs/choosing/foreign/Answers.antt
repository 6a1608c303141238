use Rattle.tree_sync.proofs.Prelude.{◌≡◌, ◌&&◌, ◌∙◌, None, ap, filter, sym, subst, not, is_some, arith, list_any, take_all, below_of, is_within, refusal}
use Rattle.tree_sync.proofs.Prelude.{no_more, IsPassed, side, IsHere, filtered_more, here, next_below, sought_here, step, whole, IsCleared, is_chosen_off}
use Rattle.tree_sync.proofs.Prelude.{row_paths, is_foreign, row_at}
use Rattle.tree_sync.proofs.Cursor.{next_cleared}
use Rattle.tree_sync.proofs.choosing.foreign.Goals as goal
use Rattle.tree_sync.proofs.choosing.foreign.Goals.{After-entry-entry}

-- the pass came to the entry
come : (c : After-entry-entry) → IsHere c.args.dest.now c.loop-cursor.cursor.1 c.entry-entry.result.now c.advance.new.self
come c = here c.args.dest.now c.loop-cursor.cursor c.advance.new.self c.entry-entry.result.now c.in_ok-advance.field-0 c.loop-cursor.invariant.of_list
    c.in_ok-advance.ensures.passed c.if-branch.true c.entry-entry.ensures.at

pub seek_row-at_here-requires-clause-passed : goal.seek_row-at_here-requires-clause-passed
seek_row-at_here-requires-clause-passed c =
    sought_here IsPassed (λ e. below_of e.path c.args.top.now) _ _ _ _ (row_paths c.args.found.now.rows) c.loop-cursor.at _
    (come (goal.at.seek_row-at_here-requires-clause-passed c).After-entry-entry) c.loop-cursor.invariant.rows c.in_ok-below.ensures

pub seek_mask-past_here-requires-clause-cleared : goal.seek_mask-past_here-requires-clause-cleared
seek_mask-past_here-requires-clause-cleared c =
    sought_here IsCleared (λ e. below_of e.path c.args.top.now) _ _ _ _ c.args.masks.now c.loop-cursor.past _
    (come (goal.at.seek_mask-past_here-requires-clause-cleared c).After-entry-entry) c.loop-cursor.invariant.masks c.in_ok-below.ensures

pub loop-cursor-preserved : goal.loop-cursor-preserved
loop-cursor-preserved c =
    let at = come (goal.at.loop-cursor-preserved c).After-entry-entry in
    let top = c.args.top.now in
    let rows = c.args.found.now.rows in
    let masks = c.args.masks.now in
    let e = c.entry-entry.result.now in
    let is_below = c.in_ok-below.ensures in
    let valid : refusal (below_of e.path top) ≡ None = subst (λ b. refusal b ≡ None) is_below c.seek_mask-past_here.ensures.valid in
    let off : c.is_foreign_at-is_foreign.result ≡ is_foreign (row_at rows (below_of e.path top)) =
    c.is_foreign_at-is_foreign.ensures ∙ ap is_foreign (sym c.seek_row-at_here.ensures.row ∙ ap (row_at rows) is_below)
    in
    let masked : c.seek_mask-past_here.result.1 ≡ list_any (is_within (below_of e.path top)) masks =
    c.seek_mask-past_here.ensures.masked ∙ ap (λ b. list_any (is_within b) masks) is_below
    in
    record {
      of_list = whole _ _ _ _ at;
      inside = (let next = step _ _ _ _ at in omega (arith, next, at.inside));
      chosen = filtered_more (is_chosen_off masks (side top c.args.dest.now) rows) _ c.loop-cursor.chosen c.add_foreign.new.list _ _ _
          (is_some e.stat && (c.is_foreign_at-is_foreign.result && not c.seek_mask-past_here.result.1)) at c.loop-cursor.invariant.chosen
          (λ i. is_some e.stat && (off i && not (masked i))) c.in_ok-add_foreign.ensures;
      rows = next_below c.below_keeps_order.ensures top _ _ _ _ (row_paths rows) c.seek_row-at_here.result.0 at c.requires.side.ascends
          c.requires.side.within (subst (IsPassed (row_paths rows) c.seek_row-at_here.result.0) is_below c.seek_row-at_here.ensures.passed);
      masks = next_cleared c.below_keeps_order.ensures c.under_is_contiguous.ensures top _ _ _ _ masks c.seek_mask-past_here.result.0 at
          c.requires.side.ascends c.requires.side.within valid
          (subst (IsCleared masks c.seek_mask-past_here.result.0) is_below c.seek_mask-past_here.ensures.cleared);
    }

pub returns : goal.returns
returns c =
    let list = c.args.dest.now in
    let over = no_more list c.loop-cursor.cursor c.in_ok-advance.field-0 c.loop-cursor.invariant.of_list
    c.in_ok-advance.ensures.answer c.if-branch.false in
    c.loop-cursor.invariant.chosen
    ∙ ap (filter (is_chosen_off c.args.masks.now (side c.args.top.now list) c.args.found.now.rows)) (take_all c.loop-cursor.cursor.1 list over)
