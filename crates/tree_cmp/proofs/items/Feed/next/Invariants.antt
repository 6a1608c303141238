use Rattle.tree_cmp.proofs.Prelude.{◌≡◌, ◌-◌, length, ahead, IsSound}
use Rattle.tree_cmp.proofs.items.Feed.next.Given as goal

abbrev pub invariant-loop-self : goal.invariant-loop-self
invariant-loop-self l = record {
  sound : IsSound l.self;
  same : ahead l.self ≡ ahead l.initial.self;
  list : l.self.cursor.0 ≡ l.initial.self.cursor.0;
  top : l.self.top.now ≡ l.initial.self.top.now;
}

abbrev pub decreases-loop-self : goal.decreases-loop-self
decreases-loop-self l = length l.self.cursor.0 - l.self.cursor.1
