use Rattle.tree_cmp.proofs.Prelude.{◌≡◌, map, length, subst, sym, IfOk, Result, Ok, Err, side, Findings, IsComparison, first_told, HaveCauses, RoseTogether}
use Rattle.tree_cmp.proofs.Prelude.{items_of, links_at, AreDrafts, findings_of}
use Rattle.tree_cmp.proofs.Counts.{NoneFell-same}
use Rattle.tree_cmp.proofs.Finding.{comparison, fresh}
use Rattle.tree_cmp.proofs.OneRow.{failed_count}
use Rattle.tree_cmp.proofs.Causes.{causes}
use Rattle.tree_cmp.proofs.comparing.compare.Goals as goal

if_found : {E : Type 0} (P : Findings → Type 0) (r : Result Findings E) (f : Findings) → P f → IfOk r (λ found. found ≡ f) → IfOk r P
if_found P (Ok found) f p e = subst P (sym e) p
if_found P (Err e) f p h = tt

pub returns-in_err-drafts-clause-none_fell : goal.returns-in_err-drafts-clause-none_fell
returns-in_err-drafts-clause-none_fell g c = NoneFell-same (map g.R.Tree.count c.args.readers.now.items)

pub read_all-requires-clause-unread : goal.read_all-requires-clause-unread
read_all-requires-clause-unread g c = λ κs h. fresh _ _ _ c.in_ok-drafts.drafts.items c.in_ok-drafts.ensures

pub returns-clause-found : goal.returns-clause-found
returns-clause-found g c =
    let l = side c.args.left_top.now c.args.left.now in
    let r = side c.args.right_top.now c.args.right.now in
    if_found (IsComparison (first_told (map g.R.Tree.tree c.args.readers.now.items)) l r) c.of.result
    (findings_of c.args.left_top.now c.args.right_top.now c.read_all.new.drafts.items)
    (comparison c.graft_undoes_below.ensures g.R.Tree.gives
    (first_told (map g.R.Tree.tree c.args.readers.now.items)) l r c.requires.left c.requires.right c.requires.left_told
    c.requires.right_told c.read_all.new.drafts.items
    (subst (AreDrafts (links_at l r) (items_of c.args.left_top.now c.args.left.now) (items_of c.args.right_top.now c.args.right.now))
    (sym c.in_ok-read_all.ensures.unsettled) c.in_ok-drafts.ensures)
    c.in_ok-read_all.ensures.settled)
    c.of.ensures

pub returns-clause-counted : goal.returns-clause-counted
returns-clause-counted g c =
    if_found (λ found. RoseTogether (length found.failed) (map g.R.Tree.count c.args.readers.now.items)
    (map g.R.Tree.count c.read_all.new.readers.items)) c.of.result
    (findings_of c.args.left_top.now c.args.right_top.now c.read_all.new.drafts.items)
    (subst (λ n. RoseTogether n (map g.R.Tree.count c.args.readers.now.items) (map g.R.Tree.count c.read_all.new.readers.items))
    (sym (failed_count c.args.left_top.now c.args.right_top.now c.read_all.new.drafts.items)) c.in_ok-read_all.ensures.counted)
    c.of.ensures

pub returns-clause-causes : goal.returns-clause-causes
returns-clause-causes g c =
    if_found (HaveCauses g.R.Tree.gives) c.of.result
    (findings_of c.args.left_top.now c.args.right_top.now c.read_all.new.drafts.items)
    (causes g.R.Tree.gives (first_told (map g.R.Tree.tree c.args.readers.now.items)) c.args.left_top.now c.args.right_top.now
    c.read_all.new.drafts.items c.in_ok-read_all.ensures.settled)
    c.of.ensures
