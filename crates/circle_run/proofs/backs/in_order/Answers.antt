use Rattle.circle_run.proofs.Prelude.{rules, arith, ◌==◌, IsNonDecreasingBy-from_sort_by_key, sum_by-IsPermutation, one_if}
use Rattle.circle_run.proofs.Places.{ascends}
use Rattle.circle_run.proofs.backs.in_order.Goals as goal

pub returns-clause-order : goal.returns-clause-order
returns-clause-order g c =
    let s = c.sort_unstable_by_key.ensures in
    ascends c.sort_unstable_by_key.new.self.items
    (IsNonDecreasingBy-from_sort_by_key (λ r. r.me) c.sort_unstable_by_key.new.self.items s.sorted (λ a r f' k. search rules))
    (λ v. (let e = sum_by-IsPermutation (λ r. one_if (r.me == v)) c.args.ranks.items c.sort_unstable_by_key.new.self.items s.permutation in
    let o = c.requires.once v in omega arith))
