-- What a stage walks against which nothing stands is fine, and no more than a list may have.
use Rattle.stage_report.proofs.Prelude.{◌≡◌, ⊎_elim, ℕ, ◌+◌, ◌<◌, ◌≤◌, true, false, List, [], ◌∷◌, ◌++◌, map, length, length-append, Option, Some, None, IfSome}
use Rattle.stage_report.proofs.Prelude.{refl, ap, sym, subst, arith, is_some, All, AllByRecursion, sum_by, flat_map, IsStrictlySortedBy, IsPermutation, get}
use Rattle.stage_report.proofs.Prelude.{cases_lt, recursion_from_All, All-from_recursion, length-flat_map, sum_by-IsPermutation, length_permutation}
use Rattle.stage_report.proofs.Prelude.{IsPermutation-refl, path_cmp, Files, IsTree, StoodStill, all_weaker, Entry, mark_whys, number_whys, whys_of, notes_of}
use Rattle.stage_report.proofs.Prelude.{Valid, walk, all_told, answers_in, weight_of, WalkWithoutFaultsIsFine, IsRoots, RootsAreUnique, max_entries, IsFound}
use Rattle.stage_report.proofs.Prelude.{IsWalkOf, IsCut, IsCutFound, IsJoined, moved, in_order, Side, IsFineWalk, on_side, failures_in, CheckpointsAreOne}
use Rattle.stage_report.proofs.Prelude.{all_of, Begins, IsFineCheckpoint, IsFineBeginning, none_counted, all_join}
use Rattle.path_text.proofs.Parts as parts
use Rattle.entry_pages.specs.declared.entries.Mark.TheVariants as mark
use Rattle.tool_text.specs.declared.noting.Why.TheVariants as why
use Rattle.stage_report.proofs.Begun.{of_told, goes_on}
use Rattle.stage_report.proofs.Placed.{few_cover, left_valid, own_roots}
use Rattle.stage_report.proofs.Printing.{roots_valid}
use Rattle.stage_report.proofs.Lengths.{number, done_few}

-- ---- entries that name nothing

abbrev IsAnswered : Entry → Type 0
IsAnswered e = (e.mark ≡ mark.Fine) × (e.unnamed ≡ 0)

abbrev pub IsFine : Entry → Type 0
IsFine e = (e.mark ≡ mark.Fine) × (e.unnamed ≡ 0) × (e.far ≡ 0)

no_whys : (e : Entry) → IsFine e → whys_of e ≡ []
no_whys e h = λ i. mark_whys (h.0 i) ++ number_whys why.Unnamed (h.1 i) ++ number_whys why.TooLong (h.2 i)

no_notes : (entries : List Entry) → AllByRecursion IsFine entries → notes_of entries ≡ []
no_notes [] h = refl
no_notes (e ∷ entries) h = (λ i. map (λ w. record { path = e.path; why = w; dest = false }) (no_whys e h.0 i) ++ no_notes entries h.1 i)

pub no_failures : (entries : List Entry) → AllByRecursion IsFine entries → failures_in [] entries ≡ []
no_failures entries h = ap (λ notes. map (on_side false) notes ++ []) (no_notes entries h)

-- ---- what is walked

-- what was done is fine, and so is a walk of the starts: in path order they are there, no child is too far, and both together are no longer than a list may be
pub record IsFineBegun (files : Files) (done : List Entry) (starts : List (List ℕ)) : Type 0 where
  pub ordered : List (List ℕ)
  pub moves : IsPermutation starts ordered
  pub ascend : IsStrictlySortedBy path_cmp ordered
  pub valid : AllByRecursion Valid starts
  pub there : All (λ root. is_some (get files root) ≡ true) ordered
  pub near : All (λ e. e.far ≡ 0) (flat_map (walk files all_told) ordered)
  pub few : length done + length (flat_map (walk files all_told) ordered) ≤ max_entries
  pub fine : AllByRecursion IsFine done

from_roots : RootsAreUnique → (files : Files) (given starts : List (List ℕ)) → All Valid given → IsFineWalk files given →
    IsRoots given starts → IsFineBegun files [] starts
from_roots one files given starts valid f are =
    let same : starts ≡ f.roots = one given starts f.roots valid are f.are in
    record {
      ordered = f.roots;
      moves = subst (λ rs. IsPermutation rs f.roots) (sym same) (IsPermutation-refl f.roots);
      ascend = f.are.ascend;
      valid = roots_valid given starts valid are;
      there = f.there;
      near = f.near;
      few = omega (arith, f.few);
      fine = tt;
    }

from_kept : RootsAreUnique → (files : Files) (dir : List ℕ) (f : IsFineCheckpoint files dir) → IsFineBegun files f.done (all_of f.left)
from_kept one files dir f =
    let few = few_cover f.done (all_of f.left) f.kept.placed in
    let o = in_order (all_of f.left) few in
    let valid = left_valid dir f.left files f.kept.kept.ranks in
    let same : o.list ≡ f.ahead.roots =
    one (all_of f.left) o.list f.ahead.roots (All-from_recursion Valid (all_of f.left) valid) (own_roots (all_of f.left) few o) f.ahead.are in
    record {
      ordered = f.ahead.roots;
      moves = subst (IsPermutation (all_of f.left)) same o.all;
      ascend = f.ahead.are.ascend;
      valid = valid;
      there = f.ahead.there;
      near = f.ahead.near;
      few = f.few;
      fine = recursion_from_All IsFine f.done f.fine;
    }

pub begun_fine : RootsAreUnique → CheckpointsAreOne → (given : Option (List (List ℕ))) (dir : List ℕ) (before : Side) (files : Files) (done : List Entry)
    (starts : List (List ℕ)) → IfSome given (All Valid) → before.tree ≡ Some files → IsFineBeginning files given dir → Begins given dir before done starts →
    IsFineBegun files done starts
begun_fine one kept (Some given) dir before files done starts valid told f b =
    subst (λ d. IsFineBegun files d starts) (sym b.0) (from_roots one files given starts valid f b.1)
begun_fine one kept None dir before files done starts valid told f b =
    let on = goes_on kept dir before files done f.done starts f.left told f.kept.some f.kept.kept b in
    subst (λ d. IsFineBegun files d starts) on.same_done (subst (IsFineBegun files f.done) on.same_left (from_kept one files dir f))

-- ---- what was found

pub record IsFineFound (files : Files) (ordered : List (List ℕ)) (later : List Entry) : Type 0 where
  pub same : later ≡ flat_map (walk files all_told) ordered
  pub fine : AllByRecursion IsAnswered later

walked : WalkWithoutFaultsIsFine → (files : Files) (ordered : List (List ℕ)) (later : List Entry) → (0 < length ordered → IsTree files) →
    All (λ root. is_some (get files root) ≡ true) ordered → later ≡ flat_map (walk files (answers_in later)) ordered → sum_by weight_of later ≡ 0 →
    IsFineFound files ordered later
walked law files [] later valid there told none = record { same = told; fine = subst (AllByRecursion IsAnswered) (sym told) tt }
walked law files (start ∷ ordered) later valid there told none =
    let is = law files (start ∷ ordered) later (valid (omega arith)) there told none in
    record { same = is.0; fine = recursion_from_All IsAnswered later is.1 }

-- what a walk found that is fine
pub record IsFineWhole (later : List Entry) (most : ℕ) : Type 0 where
  pub fine : AllByRecursion IsFine later
  pub few : length later ≤ most

abbrev pub most_of : {files : Files} {done : List Entry} {starts : List (List ℕ)} → IsFineBegun files done starts → ℕ
most_of {files} b = length (flat_map (walk files all_told) b.ordered)

as_fine : (entries : List Entry) → AllByRecursion IsAnswered entries → AllByRecursion (λ e. e.far ≡ 0) entries → AllByRecursion IsFine entries
as_fine [] h g = tt
as_fine (e ∷ entries) h g = ((h.0.0, h.0.1, g.0), as_fine entries h.1 g.1)

pub found_fine : WalkWithoutFaultsIsFine → (files : Files) (done : List Entry) (starts : List (List ℕ)) (tree : Option Files) (old new : ℕ)
    (later : List Entry) → tree ≡ Some files → (b : IsFineBegun files done starts) → IsFound tree starts old new later → StoodStill old new →
    IsFineWhole later (most_of b)
found_fine law files done starts tree old new later told b found stood =
    let walks = of_told (λ files. IsWalkOf files later starts) tree files told found.told b.ordered b.moves b.ascend in
    let valid : 0 < length b.ordered → IsTree files =
    λ some. of_told IsTree tree files told (found.valid (omega (arith, some, length_permutation starts b.ordered b.moves))) in
    let is = walked law files b.ordered later valid b.there walks (none_counted (sum_by weight_of later) old new found.counted stood) in
    let Near : Entry → Type 0 = λ e. e.far ≡ 0 in
    record {
      fine = as_fine later is.fine (subst (AllByRecursion Near) (sym is.same) (recursion_from_All Near (flat_map (walk files all_told) b.ordered) b.near));
      few = omega (arith, ap length is.same);
    }

-- what was done of a walk that was cut is no more than the walk
pub cut_few : (files : Files) (done : List Entry) (starts : List (List ℕ)) (tree : Option Files) (old new : ℕ) (later : List Entry)
    (left : List (List ℕ)) → tree ≡ Some files → (b : IsFineBegun files done starts) → IsCutFound tree starts old new later left → StoodStill old new →
    length later ≤ most_of b
cut_few files done starts tree old new later left told b found stood =
    ⊎_elim
    (λ some.
    let cut = of_told (λ files. IsCut files starts later left) tree files told found.told in
    let t = of_told IsTree tree files told (found.valid some) in
    let short = all_weaker Valid (λ p. length p ≤ 4095) parts.short starts b.valid in
    omega (
      arith,
      done_few files starts left later t short cut (none_counted (sum_by weight_of later) old new found.counted stood),
      sum_by-IsPermutation (number files) starts b.ordered b.moves,
      length-flat_map (walk files all_told) b.ordered,
    ))
    (λ none. omega (arith, none))
    (cases_lt 0 (length later))

-- ---- with what was done before

pub joined_fine : (done later list : List Entry) → IsJoined done later list → AllByRecursion IsFine done → AllByRecursion IsFine later →
    AllByRecursion IsFine list
joined_fine done later list joined h g = moved IsFine (done ++ later) list joined.all (all_join IsFine done later h g)

pub joined_few : (done later list : List Entry) (most : ℕ) → IsJoined done later list → length done + most ≤ max_entries → length later ≤ most →
    max_entries < length list → ⊥
joined_few done later list most joined few most_later many =
    absurd (omega (arith, many, few, most_later, length_permutation (done ++ later) list joined.all, length-append done later))
