use Rattle.level_work.proofs.Prelude.{◌≡◌, ℕ, [], Some, false, slice_get, SameSeats, AreInTurn, DealtTo, Lot}
use Rattle.level_work.proofs.dealing.deal.Given as goal

abbrev pub invariant-loop-t : goal.invariant-loop-t
invariant-loop-t g l = record {
  seats : SameSeats l.fn.lots l.lots;
  dealt : DealtTo l.t l.order l.items l.fates l.places l.lots;
  turn : AreInTurn l.places l.lots;
  fresh : (i : ℕ) (lot : Lot _ _) → slice_get l.lots i ≡ Some lot → (lot.fates.items ≡ []) × (lot.lost ≡ false);
}
