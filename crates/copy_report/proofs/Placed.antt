-- Targets that were placed, and where they stand.
use Rattle.copy_report.proofs.Prelude.{◌≡◌, ◌⊎◌, inl, inr, ⊎_elim, ℕ, ◌+◌, ◌-◌, ◌^◌, ◌<◌, Bool, true, false, cond, ◌||◌, List, map, get_or, min, Option, Some}
use Rattle.copy_report.proofs.Prelude.{None, IfSome, Result, Ok, Err, refl, ap, ◌∙◌, sym, subst, arith, get, All, refusal, parent_of, Asks, RoseBy, Files}
use Rattle.copy_report.proofs.Prelude.{is_dir, IsCounted, IsPair, IsWhy, PlacedAreApart, PlaceStopped, placed, placed_over, Pair, PlaceError, Side, Places}
use Rattle.copy_report.proofs.Prelude.{ArePlaced, StopsPlacing}
use Rattle.tree_copy.specs.declared.pairs.PlaceError.TheVariants as place

-- ---- what was placed

-- where the files tell their tree, that tells what is a directory, and else what was answered
pub places : (sources : List (List ℕ)) (dest : List ℕ) (tree : Option Files) (answer : Result (List Pair) PlaceError) (in_dir over_dir : Bool) →
    placed in_dir over_dir dest sources ≡ answer → IfSome tree (λ files. placed_over files dest sources ≡ answer) → Places sources dest tree answer
places sources dest None answer in_dir over_dir due told = record { in_dir = in_dir; over_dir = over_dir; due = due; told = tt }
places sources dest (Some files) answer in_dir over_dir due told =
    record { in_dir = is_dir (get files dest); over_dir = is_dir (get files (parent_of dest)); due = told; told = (refl, refl) }

-- a target stands in a directory
stands : (files : Files) (in_dir over_dir : Bool) (dest target : List ℕ) → in_dir ≡ is_dir (get files dest) → over_dir ≡ is_dir (get files (parent_of dest)) →
    cond in_dir (parent_of target) target ≡ dest → (in_dir || over_dir) ≡ true → is_dir (get files (parent_of target)) ≡ true
stands files true over_dir dest target here over is some = ap (λ q. is_dir (get files q)) is ∙ sym here
stands files false over_dir dest target here over is some = ap (λ q. is_dir (get files (parent_of q))) is ∙ sym over ∙ some

all_stand : PlacedAreApart → (sources : List (List ℕ)) (dest : List ℕ) (tree : Option Files) (pairs : List Pair) → refusal dest ≡ None →
    Places sources dest tree (Ok pairs) →
    IfSome tree (λ files. All (λ pair. is_dir (get files (parent_of pair.target)) ≡ true) pairs)
all_stand law sources dest None pairs valid p = tt
all_stand law sources dest (Some files) pairs valid p =
    let a = law p.in_dir p.over_dir dest sources pairs valid p.due in
    λ k d l. stands files p.in_dir p.over_dir dest (get_or pairs k d).target p.told.0 p.told.1 (a.stand k d l) a.some_dir

pub are_placed : PlacedAreApart → (sources : List (List ℕ)) (dest : List ℕ) (tree : Option Files) (pairs : List Pair) → refusal dest ≡ None →
    Places sources dest tree (Ok pairs) →
    map (λ pair. pair.source) pairs ≡ sources → All IsPair pairs → ArePlaced sources tree pairs
are_placed law sources dest tree pairs valid p same paths = record {
  sources = same;
  valid = paths;
  apart = (law p.in_dir p.over_dir dest sources pairs valid p.due).apart;
  stand = all_stand law sources dest tree pairs valid p;
}

-- ---- what was not placed

due_told : (sources : List (List ℕ)) (dest : List ℕ) (tree : Option Files) (e : PlaceError) → IfSome tree (λ files. IsWhy (placed_over files dest sources) e) →
    (e ≡ place.Overlap) ⊎ (e ≡ place.NoDest) → IfSome tree (λ files. placed_over files dest sources ≡ Err e)
due_told sources dest None e told which = tt
due_told sources dest (Some files) e told which =
    ⊎_elim (λ is. subst (λ w. placed_over files dest sources ≡ Err w) (sym is) (subst (IsWhy (placed_over files dest sources)) is told))
    (λ is. subst (λ w. placed_over files dest sources ≡ Err w) (sym is) (subst (IsWhy (placed_over files dest sources)) is told)) which

pub stops_placing : {S : Type 0} (gives : Asks S) (sources : List (List ℕ)) (dest : List ℕ) (before after : Side) (from until : ℕ) (old new : S)
    (e : PlaceError) →
    IfSome before.tree (λ files. IsWhy (placed_over files dest sources) e) → PlaceStopped gives sources dest old new e → IsCounted dest from until e →
    (RoseBy 1 from until → RoseBy 1 before.count after.count) → StopsPlacing sources dest before after e
stops_placing gives sources dest before after from until old new place.Overlap why stopped counted rose =
    places sources dest before.tree (Err place.Overlap) stopped.in_dir stopped.over_dir stopped.is_due
    (due_told sources dest before.tree place.Overlap why (inl refl))
stops_placing gives sources dest before after from until old new place.NoDest why stopped counted rose =
    places sources dest before.tree (Err place.NoDest) stopped.in_dir stopped.over_dir stopped.is_due
    (due_told sources dest before.tree place.NoDest why (inr refl))
stops_placing gives sources dest before after from until old new (place.Failed path) why stopped counted rose = (counted.0, rose counted.1)
stops_placing gives sources dest before after from until old new place.OutOfMemory why stopped counted rose = tt

-- a fault of a reader is counted by the files that take it back
pub taken_back : (old new from until : ℕ) → old < 2 ^ 64 → from ≡ 0 → new ≡ min (old + until) (2 ^ 64 - 1) → RoseBy 1 from until → RoseBy 1 old new
taken_back old new from until below none is rose = record { kept = omega (arith, below, is); rose = omega (arith, below, is, none, rose.rose) }
