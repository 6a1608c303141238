-- Parts that are taken back, after some of them. Our own.
use Rattle.std.specs.Prelude.{◌≡◌, ℕ, ◌+◌, ◌-◌, ◌^◌, ◌<◌, ◌≤◌, List, length, take, drop, Option, Some, None, IfSome, slice_get, is_some, []}
use Rattle.std.specs.List.{sum_by}
use Rattle.outside.specs.Tree.{Files}
use Rattle.outside.specs.Writes.{Area, all_but}
use Rattle.level_work.specs.Private.Crews.{SameShares, tops_out, AllBack}
use Rattle.level_work.specs.declared.lots.Lot.{Lot}

-- the first i lots gave their parts back
pub record Giving {A P : Type 0} (tree : Option P → Option Files) (area : Option P → Area) (count : Option P → ℕ) (i : ℕ)
    (lots now : List (Lot A P)) (a : Area) (t0 t : Option Files) (g0 g : ℕ) : Type 0 where
  pub len : length now ≡ length lots
  pub shares : SameShares lots now
  pub home : (j : ℕ) (lot : Lot A P) → j < i → slice_get now j ≡ Some lot → lot.part ≡ None
  pub rest : (j : ℕ) → i ≤ j → slice_get now j ≡ slice_get lots j
  pub at : a ≡ all_but (tops_out area (drop i lots)) []
  pub tells : is_some t ≡ is_some t0
  pub told : IfSome t0 (λ r. IfSome t (AllBack tree area (take i lots) r))
  pub kept : g0 ≤ g
  pub counts : g < 2 ^ 64 - 1 → g0 + sum_by (λ lot. count lot.part) (take i lots) ≤ g
  pub below : g < 2 ^ 64 - 1 → (j : ℕ) (lot : Lot A P) → slice_get (take i lots) j ≡ Some lot → count lot.part < 2 ^ 64 - 1
