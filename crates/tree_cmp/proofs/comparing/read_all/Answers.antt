use Rattle.tree_cmp.proofs.Prelude.{◌≡◌, ◌<◌, ◌≤◌, List, length, map, get_or, ap, sym, subst, ◌∙◌, All, OnOk, KeepsUp, Holds, held, fell_same, then_fell}
use Rattle.tree_cmp.proofs.Prelude.{then_rose, rose_none, first_same, still_some, Draft, first_told, counts, IsOfRow, IsSettled, blames}
use Rattle.tree_cmp.proofs.Counted.{all_tell, first_tree}
use Rattle.tree_cmp.proofs.Counts.{RoseTogether-none}
use Rattle.tree_cmp.proofs.Placed.{blames_none}
use Rattle.tree_cmp.proofs.comparing.read_all.Goals as goal

pub returns-in_err-desk-clause-counted : goal.returns-in_err-desk-clause-counted
returns-in_err-desk-clause-counted g c =
    RoseTogether-none (blames c.args.drafts.now.items) (map g.R.Tree.count c.args.readers.now.items)
    (blames_none c.args.drafts.now.items c.requires.unread)

pub returns-in_err-desk-clause-none_fell : goal.returns-in_err-desk-clause-none_fell
returns-in_err-desk-clause-none_fell g c = fell_same (map g.R.Tree.count c.args.readers.now.items)

pub returns-in_err-kept-clause-counted : goal.returns-in_err-kept-clause-counted
returns-in_err-kept-clause-counted g c =
    rose_none (blames c.args.drafts.now.items) (map g.R.Tree.count c.args.readers.now.items) (map g.R.Tree.count c.read_all.new.readers.items)
    (blames_none c.args.drafts.now.items c.requires.unread) c.in_err-kept.ensures.none_fell

pub settle-requires-clause-told : goal.settle-requires-clause-told
settle-requires-clause-told g c =
    let tree = g.R.Tree.tree in
    let readers = c.args.readers.now.items in
    let others = c.read_all.new.readers.items in
    let e = c.in_ok-kept.ensures in
    let told = first_told (map tree readers) in
    let some : 0 < length others = still_some tree readers others e.same c.requires.some in
    let first : tree c.index_mut.result.now ≡ told =
    ap tree c.index_mut.ensures.value ∙ first_tree tree others c.index_mut.result.now some ∙ ap first_told e.same in
    subst (λ (ds : List Draft). Holds (IsOfRow g.R.Tree.gives (tree c.index_mut.result.now) c.args.left.now c.args.right.now ds) c.in_ok-kept.kept)
    c.deref.ensures.value
    (subst (λ t. Holds (IsOfRow g.R.Tree.gives t c.args.left.now c.args.right.now c.deref.result.now) c.in_ok-kept.kept) (sym first)
    (e.told told (all_tell tree readers c.requires.alike)))

pub returns : goal.returns
returns g c =
    let tree = g.R.Tree.tree in
    let count = g.R.Tree.count in
    let readers = c.args.readers.now.items in
    let others = c.read_all.new.readers.items in
    let e = c.in_ok-kept.ensures in
    let h = c.settle.ensures in
    let x = c.index_mut.result.now in
    let y = c.settle.new.reader in
    let drafts = c.settle.new.drafts.items in
    let told = first_told (map tree readers) in
    let some : 0 < length others = still_some tree readers others e.same c.requires.some in
    let value : x ≡ get_or others 0 x = c.index_mut.ensures.value in
    let first : tree x ≡ told = ap tree value ∙ first_tree tree others x some ∙ ap first_told e.same in
    let kept : count (get_or others 0 x) ≤ count y = subst (λ n. n ≤ count y) (ap count value) h.counted.kept in
    record {
      unsettled = h.unsettled;
      settled = subst (λ t. OnOk c.settle.result (All (IsSettled g.R.Tree.gives t c.args.left.now c.args.right.now) drafts)) first h.settled;
      counted = then_rose count readers others x y some e.none_fell kept (blames drafts) (held counts c.in_ok-kept.kept) e.counted
          (subst (λ n. KeepsUp (held counts c.in_ok-kept.kept) (blames drafts) n (count y)) (ap count value) h.counted);
      none_fell = then_fell count readers others x y some e.none_fell kept;
      same = first_same tree others x y some (h.same ∙ ap tree value) ∙ e.same;
    }
