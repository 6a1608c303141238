use Rattle.flat_list.proofs.Prelude.{rules, sym, subst, List, is_lt, IsSortedByKey, IsStableByKey, ranks_by, answers_always, path_cmp, path_cmp_total, Entry}
use Rattle.flat_list.proofs.Ordered.{all_kept}
use Rattle.flat_list.proofs.lists.FlatList.sort_path.Goals as goal

pub returns-clause-all : goal.returns-clause-all
returns-clause-all c = all_kept _ _ _ _ c.in_ok-entries.ensures c.in_ok-self.ensures c.sort_by.ensures.permutation

pub returns-clause-sorted : goal.returns-clause-sorted
returns-clause-sorted c =
    subst (IsSortedByKey (λ (e : Entry). e.path) path_cmp) (sym c.in_ok-self.ensures)
    (c.in_ok-sort_by.ensures.sorted (λ (x y : Entry). is_lt (path_cmp x.path y.path))
    (ranks_by path_cmp_total (λ (e : Entry). e.path)) (answers_always _ _ _ (λ f a r f' k. search rules)))

pub returns-clause-stable : goal.returns-clause-stable
returns-clause-stable c =
    subst (IsStableByKey (λ (e : Entry). e.path) path_cmp c.args.self.now) (sym c.in_ok-self.ensures)
    (subst (λ (xs : List Entry). IsStableByKey (λ (e : Entry). e.path) path_cmp xs c.sort_by.new.self.items) c.in_ok-entries.ensures
    (c.sort_by.ensures.stable (λ (x y : Entry). is_lt (path_cmp x.path y.path)) (ranks_by path_cmp_total (λ (e : Entry). e.path))
    (answers_always _ _ _ (λ f a r f' k. search rules))))
