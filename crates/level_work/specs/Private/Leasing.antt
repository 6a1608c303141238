-- Shares that are leased, after some of them. Our own.
use Rattle.std.specs.Prelude.{◌≡◌, ℕ, ◌<◌, ◌≤◌, List, length, map, Option, Some, IfSome, slice_get, is_some, []}
use Rattle.outside.specs.Tree.{Files}
use Rattle.outside.specs.Writes.{Area, all_but, under}
use Rattle.outside.specs.Lease.{tops_of}
use Rattle.level_work.specs.Private.Shares.{ArePaths}
use Rattle.level_work.specs.Private.Crews.{SameShares, tops_out, AreOut, AllTell}
use Rattle.level_work.specs.declared.items.Item.{Item}
use Rattle.level_work.specs.declared.lots.Lot.{Lot}

-- the first i lots are leased
pub record Leasing {A P : Type 0} (tree : Option P → Option Files) (area : Option P → Area) (count : Option P → ℕ) (i : ℕ)
    (items : List Item) (lots now : List (Lot A P)) (a : Area) (t0 t : Option Files) : Type 0 where
  pub len : length now ≡ length lots
  pub shares : SameShares lots now
  pub rest : (j : ℕ) → i ≤ j → slice_get now j ≡ slice_get lots j
  pub at : a ≡ all_but (tops_out area now) []
  pub leased : (j : ℕ) (lot : Lot A P) → j < i → slice_get now j ≡ Some lot → area lot.part ≡ under (tops_of (area lot.part))
  pub paths : (j : ℕ) (lot : Lot A P) → j < i → slice_get now j ≡ Some lot → ArePaths items lot.places.items (tops_of (area lot.part))
  pub told : IfSome t0 (λ b. IfSome t (AreOut tree area now b))
  pub tells : is_some t ≡ is_some t0
  pub parts_tell : AllTell tree t0 now
  pub counts : map (λ lot. count lot.part) now ≡ map (λ _. 0) now
