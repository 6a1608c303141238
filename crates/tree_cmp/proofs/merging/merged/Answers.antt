use Rattle.tree_cmp.proofs.Prelude.{rules, ◌≡◌, ◌||◌, true, is_some, ◌∙◌, ap, subst, ◌++◌, links_at, AreDrafts, ahead, left_of, path_of, side_of, Takes}
use Rattle.tree_cmp.proofs.Taken.{took, ready_next, goes_on, ended}
use Rattle.tree_cmp.proofs.Linked.{popped_link, row_links, whole_ascends}
use Rattle.tree_cmp.proofs.merging.merged.Goals as goal

pub loop-right-preserved : goal.loop-right-preserved
loop-right-preserved c =
    let some : (is_some c.loop-right.left.next || is_some c.loop-right.right.next) ≡ true = search rules in
    let t : Takes (left_of c.loop-right.left) (left_of c.loop-right.right) c.in_ok-a.a c.in_ok-b.b (left_of c.pop_if.new.self)
    (left_of c.pop_if-in-loop-right.new.self) =
    took c.loop-right.left.next c.loop-right.right.next (ahead c.loop-right.left.feed)
    (ahead c.loop-right.right.feed) c.order_by-order.result c.is_le.result c.is_ge.result
    c.in_ok-a.a c.in_ok-b.b (left_of c.pop_if.new.self) (left_of c.pop_if-in-loop-right.new.self) c.loop-right.hidden
    c.order_by-order.ensures c.is_le.ensures c.is_ge.ensures (c.in_ok-a.ensures.popped, c.in_ok-a.ensures.rest)
    (c.in_ok-b.ensures.popped, c.in_ok-b.ensures.rest)
    c.loop-right.invariant.ready c.loop-right.invariant.left.last c.loop-right.invariant.right.last some
    in
    let v = c.in_ok-add.ensures.valid in
    let l = side_of c.in_ok-left.left.feed in
    let r = side_of c.in_ok-right.right.feed in
    let left_ascends = whole_ascends c.args.left c.in_ok-left.left.feed c.in_ok-left.ensures.side c.requires.left_new c.requires.left_ascends in
    let right_ascends = whole_ascends c.args.right c.in_ok-right.right.feed c.in_ok-right.ensures.side c.requires.right_new c.requires.right_ascends in
    let links = popped_link c.loop-right.left.feed c.loop-right.right.feed l r c.loop-right.left.next c.loop-right.right.next
    c.in_ok-a.a c.in_ok-b.b c.is_le.result c.is_ge.result c.links_of-links.result
    c.loop-right.invariant.left_side c.loop-right.invariant.right_side left_ascends right_ascends
    c.loop-right.invariant.left.own c.loop-right.invariant.right.own c.in_ok-a.ensures.popped c.in_ok-b.ensures.popped
    t.right.path c.links_of-links.ensures in
    let added = c.in_ok-add.ensures.added
    ∙ ap (λ rows. c.loop-right.drafts.items ++ rows)
    (row_links c.links_of-links.result (links_at l r (path_of c.in_ok-a.a c.in_ok-b.b)) c.loop-right.hidden c.in_ok-a.a c.in_ok-b.b links) in
    record {
      ready = ready_next _ _ _ _ _ _ _ _ t c.loop-right.invariant.ready v c.in_ok-add.ensures.hidden;
      left = c.in_ok-a.ensures.sound;
      right = c.in_ok-b.ensures.sound;
      left_side = c.in_ok-a.ensures.side ∙ c.loop-right.invariant.left_side;
      right_side = c.in_ok-b.ensures.side ∙ c.loop-right.invariant.right_side;
      goes = goes_on c.path_order_is_preorder.ensures c.under_is_contiguous.ensures (links_at l r) _ _ _ _ _ _ _ _ t c.loop-right.invariant.ready v
          c.in_ok-add.ensures.hidden _ _ _ _ added c.loop-right.invariant.goes;
    }

pub returns : goal.returns
returns c =
    subst (λ k. AreDrafts k (ahead c.args.left) (ahead c.args.right) c.loop-right.drafts.items)
    (λ i. links_at (c.in_ok-left.ensures.side i) (c.in_ok-right.ensures.side i))
    (ended (links_at (side_of c.in_ok-left.left.feed) (side_of c.in_ok-right.right.feed))
    c.loop-right.hidden c.loop-right.left.next c.loop-right.right.next (ahead c.loop-right.left.feed) (ahead c.loop-right.right.feed)
    (left_of c.in_ok-left.left) (left_of c.in_ok-right.right) (ahead c.args.left) (ahead c.args.right) c.loop-right.drafts.items
    c.if-is_some.ensures c.if-is_some-2.ensures c.loop-right.invariant.left.last c.loop-right.invariant.right.last
    c.loop-right.invariant.goes c.in_ok-left.ensures.same c.in_ok-right.ensures.same)
