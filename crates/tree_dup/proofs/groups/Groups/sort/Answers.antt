use Rattle.tree_dup.proofs.Prelude.{rules, ◌≡◌, map, subst, IsPermutation, List, IsPermutation-map, ranks_by, answers_always, path_cmp, path_cmp_total}
use Rattle.tree_dup.proofs.Prelude.{first_path, told_of, Told, Group}
use Rattle.std.specs.Ordering.{is_lt}
use Rattle.tree_dup.proofs.Firsts.{sorted_shown}
use Rattle.tree_dup.proofs.groups.Groups.sort.Goals as goal

pub returns-clause-groups : goal.returns-clause-groups
returns-clause-groups c =
    let seen : map told_of c.self.inside.groups.items ≡ c.args.self.now.groups = first_of (search rules, cc) in
    subst (λ (gs : List Told). IsPermutation gs (map told_of c.sort_unstable_by.new.self.items)) seen
    (IsPermutation-map told_of c.self.inside.groups.items c.sort_unstable_by.new.self.items c.sort_unstable_by.ensures.permutation)

pub returns-clause-by_first : goal.returns-clause-by_first
returns-clause-by_first c =
    sorted_shown c.sort_unstable_by.new.self.items
    (c.sort_unstable_by.ensures.sorted (λ (x y : Group). is_lt (path_cmp (first_path (told_of x)) (first_path (told_of y))))
    (ranks_by path_cmp_total (λ (x : Group). first_path (told_of x))) (answers_always _ _ _ (λ f a r f' k. search rules)))
