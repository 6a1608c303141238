use Rattle.checkpoints.proofs.Prelude.{◌++◌, ◌∙◌, ap, sym, subst, rules, map, arith, List, ℕ, Vec, Global, enumerate_from, flat_map, IsPermutation, is_lt}
use Rattle.checkpoints.proofs.Prelude.{length-map, take_all, ranks_by, answers_always, IsPermutation-map, path_cmp, path_cmp_total, Path, Left, Numbered}
use Rattle.checkpoints.proofs.Prelude.{numbered}
use Rattle.checkpoints.proofs.Paired.{pair}
use Rattle.checkpoints.proofs.Numbers.{at_map, list_more, sorted_map}
use Rattle.checkpoints.proofs.placing.in_order.Goals as goal

abbrev items : Vec Path Global → List (List ℕ)
items v = v.items

pub loop-list-preserved : goal.loop-list-preserved
loop-list-preserved c =
    let lists = c.args.lists.now in
    let lefts = c.loop-list.lefts.items in
    let list = c.list-item.result.items in
    let put = c.in_ok-put_all.ensures
    ∙ (λ i. numbered lefts ++ enumerate_from (sym (length-map lefts pair) i) (c.deref.ensures.value i)) in
    list_more (numbered lefts) (numbered c.put_all.new.lefts.items) (map items lists) c.loop-list.list-index list c.loop-list.invariant put
    (at_map items lists c.loop-list.list-index c.list-item.result c.loop-list-test.true c.list-item.is)

pub returns-clause-all : goal.returns-clause-all
returns-clause-all c =
    let lists = map items c.args.lists.now in
    let all = take_all c.loop-list.list-index lists (omega (arith, c.loop-list-test.false, length-map c.args.lists.now items)) in
    subst (λ (ls : Numbered). IsPermutation ls (numbered c.sort_by.new.self.items))
    (c.loop-list.invariant ∙ ap (λ (ls : List (List (List ℕ))). enumerate_from 0 (flat_map (λ l. l) ls)) all)
    (IsPermutation-map pair c.loop-list.lefts.items c.sort_by.new.self.items c.sort_by.ensures.permutation)

pub returns-clause-sorted : goal.returns-clause-sorted
returns-clause-sorted c =
    sorted_map pair c.sort_by.new.self.items
    (c.in_ok-sort_by.ensures.sorted (λ (x y : Left). is_lt (path_cmp x.path.now y.path.now))
    (ranks_by path_cmp_total (λ (l : Left). l.path.now)) (answers_always _ _ _ (λ f a r f' k. search rules)))
