use Rattle.level_work.proofs.Prelude.{◌≡◌, ◌<◌, ℕ, [], Some, false, slice_get, SameSeats, Lot}
use Rattle.level_work.proofs.dealing.clear.Given as goal

abbrev pub invariant-loop-i : goal.invariant-loop-i
invariant-loop-i g l = record {
  seats : SameSeats l.fn.lots l.lots;
  empty : (j : ℕ) (lot : Lot _ _) → j < l.i → slice_get l.lots j ≡ Some lot → (lot.places.items ≡ []) × (lot.fates.items ≡ []) × (lot.lost ≡ false);
}
