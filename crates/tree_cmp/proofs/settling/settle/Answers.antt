use Rattle.tree_cmp.proofs.Prelude.{rules, arith, ◌<◌, ◌-◌, length, sym, refl, ◌∙◌, length-set, get_or-set_other, IsKept, kept_then, kept_less, kept_first}
use Rattle.tree_cmp.proofs.Prelude.{holds_kept, holds_cut, counts, IsOf, IsOfRow, IsSettled}
use Rattle.tree_cmp.proofs.Placed.{set_unsettled, set_settled, set_counted, blames_none, unread_at, kept_at, if_some, as_of}
use Rattle.tree_cmp.proofs.settling.settle.Goals as goal

pub loop-place-init : goal.loop-place-init
loop-place-init g c = record {
  as_many = refl;
  inside = search rules;
  rows = c.requires.unread;
  front = λ j d l. refl;
  settled = λ j d l m. absurd (omega (arith, l, m, c.len-place.ensures, c.args.drafts.now.ok.0));
  told = c.requires.told;
  counted = kept_first _ _ _ (blames_none c.args.drafts.now.items c.requires.unread);
  same = refl;
  room = c.requires.room;
}

pub settle_draft-requires-clause-unread : goal.settle_draft-requires-clause-unread
settle_draft-requires-clause-unread g c =
    let i = c.loop-place.invariant in
    let place = c.loop-place.place - 1 in
    let y = c.index_mut.result.now in
    unread_at c.loop-place.drafts.items c.args.drafts.now.items place y c.requires.unread (let h = i.inside in omega arith)
    (sym i.as_many) c.index_mut.ensures.value (i.front place y (omega arith))

pub settle_draft-requires-clause-told : goal.settle_draft-requires-clause-told
settle_draft-requires-clause-told g c =
    let i = c.loop-place.invariant in
    let place = c.loop-place.place - 1 in
    let y = c.index_mut.result.now in
    let tree = g.R.Tree.tree c.args.reader.now in
    let now = g.R.Tree.tree c.loop-place.reader in
    if_some c.take-outcome.result (λ o. IsKept place o c.loop-place.kept) (IsOf g.R.Tree.gives now c.args.left.now c.args.right.now y.row.path y.unread)
    (λ o there. kept_at g.R.Tree.gives tree now c.args.left.now c.args.right.now c.loop-place.drafts.items c.args.drafts.now.items place y o i.same
    c.index_mut.ensures.value (i.front place y (omega arith))
    (holds_kept (IsOfRow g.R.Tree.gives tree c.args.left.now c.args.right.now c.args.drafts.now.items) place o c.loop-place.kept i.told there))
    c.take-outcome.ensures.kept

pub returns-in_err-settle_draft-clause-unsettled : goal.returns-in_err-settle_draft-clause-unsettled
returns-in_err-settle_draft-clause-unsettled g c =
    set_unsettled c.loop-place.drafts.items c.args.drafts.now.items (c.loop-place.place - 1) c.settle_draft.new.draft
    c.index_mut.result.now c.index_mut.result.now c.loop-place.invariant.rows c.in_err-settle_draft.ensures.unsettled c.index_mut.ensures.value

pub returns-in_err-settle_draft-clause-counted : goal.returns-in_err-settle_draft-clause-counted
returns-in_err-settle_draft-clause-counted g c =
    let i = c.loop-place.invariant in
    let place = c.loop-place.place - 1 in
    kept_less _ _ _ _ _ (kept_then _ _ _ _ _ _ _ _ _ _ i.counted (c.take-outcome.ensures.held counts) c.in_err-settle_draft.ensures.counted
    (set_counted c.loop-place.drafts.items place c.settle_draft.new.draft c.index_mut.result.now (let h = i.inside in omega arith)))

pub loop-place-preserved : goal.loop-place-preserved
loop-place-preserved g c =
    let i = c.loop-place.invariant in
    let e = c.in_ok-settle_draft.ensures in
    let drafts = c.loop-place.drafts.items in
    let was = c.args.drafts.now.items in
    let tree = g.R.Tree.tree c.args.reader.now in
    let place = c.loop-place.place - 1 in
    let x = c.settle_draft.new.draft in
    let y = c.index_mut.result.now in
    let inside : place < length drafts = (let h = i.inside in omega arith) in
    record {
      as_many = length-set drafts place x ∙ i.as_many;
      inside = omega (arith, i.inside, length-set drafts place x);
      rows = set_unsettled drafts was place x y y i.rows e.unsettled c.index_mut.ensures.value;
      front = λ j d l. get_or-set_other drafts place j x d (λ here. absurd (omega (arith, l, here))) ∙ i.front j d (omega arith);
      settled = set_settled (IsSettled g.R.Tree.gives tree c.args.left.now c.args.right.now) drafts place c.loop-place.place x (omega arith) inside i.settled
          (as_of (λ t. IsSettled g.R.Tree.gives t c.args.left.now c.args.right.now x) i.same e.settled);
      told = holds_cut (IsOfRow g.R.Tree.gives tree c.args.left.now c.args.right.now was) c.loop-place.kept c.take-outcome.new.self
          c.take-outcome.ensures.cut i.told;
      counted = kept_then _ _ _ _ _ _ _ _ _ _ i.counted (c.take-outcome.ensures.held counts) e.counted (set_counted drafts place x y inside);
      same = e.same ∙ i.same;
      room = e.room;
    }

pub returns-clause-settled : goal.returns-clause-settled
returns-clause-settled g c = λ j d l. c.loop-place.invariant.settled j d (omega arith) l

pub returns-clause-counted : goal.returns-clause-counted
returns-clause-counted g c = kept_less _ _ _ _ _ c.loop-place.invariant.counted
