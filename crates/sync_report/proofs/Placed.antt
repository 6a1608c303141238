-- What the look at what is over the destination told.
use Rattle.sync_report.proofs.Prelude.{◌≡◌, ℕ, ◌+◌, ◌-◌, ◌^◌, ◌<◌, Bool, true, false, cond, min, Option, Some, None, IfSome, Result, Ok, Err, IfErr, refl, ap}
use Rattle.sync_report.proofs.Prelude.{arith, get, parent_of, Asks, RoseBy, Files, is_dir, Pair, PlaceError, IsLookCounted, IsSyncWhy, SyncPlaceStopped}
use Rattle.sync_report.proofs.Prelude.{sync_placed, sync_placed_over, Side, Places, StopsPlacing}
use Rattle.tree_copy.specs.declared.pairs.PlaceError.TheVariants as place

abbrev pub Placed : Type 0
Placed = Result (Unit {0}) PlaceError

-- what is due, by whether the two overlap and whether a directory is over the target
abbrev pub due_by : (meets over : Bool) → Placed
due_by meets over = cond meets (Err place.Overlap) (cond over (Ok tt) (Err place.NoDest))

pub not_ok : (e : PlaceError) (due : Placed) → due ≡ Err e → due ≡ Ok tt → ⊥
not_ok e due is fine = cc

-- where the files tell their tree, that tells what is a directory, and else what was answered
places : (pair : Pair) (tree : Option Files) (answer : Placed) (over_dir : Bool) → sync_placed over_dir pair.source pair.target ≡ answer →
    IfSome tree (λ files. sync_placed_over files pair.source pair.target ≡ answer) → Places pair tree answer
places pair None answer over_dir due told = record { over_dir = over_dir; due = due; told = tt }
places pair (Some files) answer over_dir due told = record { over_dir = is_dir (get files (parent_of pair.target)); due = told; told = refl }

pub no_overlap : (meets over : Bool) → due_by meets over ≡ Ok tt → meets ≡ false
no_overlap true over e = absurd (not_ok place.Overlap (due_by true over) refl e)
no_overlap false over e = refl

pub stops_placing : {S : Type 0} (gives : Asks S) (pair : Pair) (before after : Side) (from until : ℕ) (old new : S) (r : Placed) →
    IfErr r (λ e. IfSome before.tree (λ files. IsSyncWhy (sync_placed_over files pair.source pair.target) e)) →
    IfErr r (SyncPlaceStopped gives pair.source pair.target old new) → IfErr r (IsLookCounted pair.target from until) →
    (RoseBy 1 from until → RoseBy 1 before.count after.count) → IfErr r (StopsPlacing pair before after)
stops_placing gives pair before after from until old new (Ok u) why stopped counted rose = tt
stops_placing gives pair before after from until old new (Err place.Overlap) why stopped counted rose =
    places pair before.tree (Err place.Overlap) false (ap (λ b. due_by b false) stopped.0) why
stops_placing gives pair before after from until old new (Err place.NoDest) why stopped counted rose =
    places pair before.tree (Err place.NoDest) false (ap (λ b. due_by b false) stopped.0) why
stops_placing gives pair before after from until old new (Err (place.Failed path)) why stopped counted rose = (counted.0, rose counted.1)
stops_placing gives pair before after from until old new (Err place.OutOfMemory) why stopped counted rose = tt

-- a fault of a reader is counted by the files that take it back
pub taken_back : (old new from until : ℕ) → old < 2 ^ 64 → from ≡ 0 → new ≡ min (old + until) (2 ^ 64 - 1) → RoseBy 1 from until → RoseBy 1 old new
taken_back old new from until below none is rose = record { kept = omega (arith, below, is); rose = omega (arith, below, is, none, rose.rose) }
