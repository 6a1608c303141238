use Rattle.level_work.proofs.Prelude.{◌≡◌, ℕ, Some, length, slice_get, Fate}
use Rattle.level_work.specs.declared.items.Fate.TheVariants as fate
use Rattle.level_work.proofs.levels.no_fates.Given as goal

abbrev pub invariant-loop : goal.invariant-loop
invariant-loop l = (length l.fates.items ≡ l.counter) × ((k : ℕ) (f : Fate) → slice_get l.fates.items k ≡ Some f → f ≡ fate.Done)
