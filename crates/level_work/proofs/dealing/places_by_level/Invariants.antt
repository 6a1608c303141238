use Rattle.level_work.proofs.Prelude.{map, length, AllBelow, AreByLevel}
use Rattle.level_work.proofs.dealing.places_by_level.Given as goal

abbrev pub invariant-loop-k : goal.invariant-loop-k
invariant-loop-k l = record {
  below : AllBelow (length l.levels.items) l.items;
  places : AreByLevel l.k l.items (map (λ places. places.items) l.levels.items);
}
