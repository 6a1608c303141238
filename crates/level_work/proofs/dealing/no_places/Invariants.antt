use Rattle.level_work.proofs.Prelude.{◌≡◌, ℕ, [], Some, Vec, length, slice_get}
use Rattle.level_work.proofs.dealing.no_places.Given as goal

abbrev pub invariant-loop : goal.invariant-loop
invariant-loop l = (length l.levels.items ≡ l.counter) × ((i : ℕ) (places : Vec ℕ _) → slice_get l.levels.items i ≡ Some places → places.items ≡ [])
