-- All lots at work, after some levels. Our own.
use Rattle.std.specs.Prelude.{◌≡◌, ℕ, ◌≤◌, false, List, map, Option, Some, slice_get}
use Rattle.std.specs.List.{count_by}
use Rattle.path_text.specs.Path.{level_of}
use Rattle.outside.specs.Tree.{Files}
use Rattle.outside.specs.Writes.{Area, nothing_lent}
use Rattle.level_work.specs.Acts.{Deed, AllShow}
use Rattle.level_work.specs.Counts.{is_failed}
use Rattle.level_work.specs.Chain.{is_level_done, mark_at}
use Rattle.level_work.specs.Private.Steps.{Ran}
use Rattle.level_work.specs.Private.Crews.{AtHome, BlamedMore, SameActors}
use Rattle.level_work.specs.Private.Dealing.{Knows}
use Rattle.level_work.specs.declared.items.Item.{Item}
use Rattle.level_work.specs.declared.items.Fate.{Fate}
use Rattle.level_work.specs.declared.items.Fate.TheVariants as fate
use Rattle.level_work.specs.declared.items.Order.{Order}
use Rattle.level_work.specs.declared.lots.Lot.{Lot}

-- the lots, the fates, the failed paths and the ground after so many turns
pub record Turned {A P D : Type 0} (plain : A → D) (count : A → ℕ) (deed : D → Deed) (o : Order) (top turn : ℕ) (items : List Item)
    (lots now : List (Lot A P)) (fates : List Fate) (paths : List (List ℕ)) (a : Area) (t0 t : Option Files) (g0 g : ℕ) : Type 0 where
  pub area : a ≡ nothing_lent
  pub home : AtHome now
  pub actors : SameActors plain count lots now
  pub kept : g0 ≤ g
  pub ran : (d : D) → AllShow d (map (λ lot. plain lot.actor) lots) → Ran (deed d) o top turn items fates t0 t
  pub fresh : (k : ℕ) (x : Item) (f : Fate) → slice_get items k ≡ Some x → slice_get fates k ≡ Some f
      → is_level_done o (mark_at o top turn) (level_of x.path) ≡ false → f ≡ fate.Done
  pub knows : Knows o items fates paths
  pub blamed : BlamedMore 0 (count_by is_failed fates) g0 (map (λ lot. count lot.actor) lots) g (map (λ lot. count lot.actor) now)
