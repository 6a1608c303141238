use Rattle.flat_list.proofs.Prelude.{rules, sym, subst, List, is_lt, IsSorted, IsStable, always_returns_same, ranks_by, Entry, sort_order}
use Rattle.flat_list.proofs.Ordered.{sort_order_total, all_kept}
use Rattle.flat_list.proofs.lists.FlatList.sort_by.Goals as goal

pub returns-clause-all : goal.returns-clause-all
returns-clause-all c = all_kept _ _ _ _ c.in_ok-entries.ensures c.in_ok-self.ensures c.sort_by.ensures.permutation

pub returns-clause-sorted : goal.returns-clause-sorted
returns-clause-sorted c =
    let cmp = sort_order c.args.field c.args.down in
    subst (IsSorted cmp) (sym c.in_ok-self.ensures)
    (c.in_ok-sort_by.ensures.sorted (λ (x y : Entry). is_lt (cmp x y))
    (ranks_by (sort_order_total c.args.field c.args.down) (λ (e : Entry). e)) (always_returns_same _ _ _ (λ a r q k. search rules)))

pub returns-clause-stable : goal.returns-clause-stable
returns-clause-stable c =
    let cmp = sort_order c.args.field c.args.down in
    subst (IsStable cmp c.args.self.now) (sym c.in_ok-self.ensures)
    (subst (λ (xs : List Entry). IsStable cmp xs c.sort_by.new.self.items) c.in_ok-entries.ensures
    (c.sort_by.ensures.stable (λ (x y : Entry). is_lt (cmp x y))
    (ranks_by (sort_order_total c.args.field c.args.down) (λ (e : Entry). e)) (always_returns_same _ _ _ (λ a r q k. search rules))))
