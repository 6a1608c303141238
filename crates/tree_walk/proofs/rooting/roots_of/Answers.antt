use Rattle.tree_walk.proofs.Prelude.{rules, dedup_same, is_in}
use Rattle.tree_walk.proofs.Rooted.{rooted}
use Rattle.tree_walk.proofs.rooting.roots_of.Goals as goal

pub returns : goal.returns
returns c =
    rooted c.args.paths.items c.sort.new.self.items c.dedup_by.new.self.items c.sort.ensures.permutation c.in_ok-sort.ensures.sorted
    (dedup_same _ is_in _ (λ x y b f' x' y' k. search rules) _ _ c.dedup_by.ensures.filtered)
