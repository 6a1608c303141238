use Rattle.level_work.proofs.Prelude.{◌≡◌, ◌||◌, subst, ℕ, List, nat_eq, pointwise, has_path}
use Rattle.level_work.proofs.Sets.{is_added}
use Rattle.level_work.proofs.failures.Paths.add.Goals as goal

pub returns : goal.returns
returns c = subst (λ p. (q : List ℕ)
    → has_path c.insert.new.self.keys q ≡ (pointwise nat_eq q p || has_path c.args.self.now.set.keys q)) c.in_ok-copy.ensures
    (is_added c.args.self.now.set.keys c.insert.new.self.keys _ c.in_ok-insert.ensures.updates.0)
