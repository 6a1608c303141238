use Rattle.level_work.proofs.Prelude.{◌≡◌, ◌<◌, ℕ, Some, slice_get, level_of, Item}
use Rattle.level_work.proofs.dealing.level_count.Given as goal

abbrev pub invariant-loop-item : goal.invariant-loop-item
invariant-loop-item l = (k : ℕ) (x : Item) → k < l.item-index → slice_get l.items k ≡ Some x → level_of x.path < l.count
