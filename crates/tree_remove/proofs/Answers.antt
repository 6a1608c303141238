-- What a refusal to remove says, by its tests.
use Rattle.tree_remove.proofs.Prelude.{◌≡◌, ◌⊎◌, inl, inr, ℕ, ◌<◌, Bool, true, false, cond, not, ◌&&◌, Option, Some, None, refl, sym, arith, false≢true}
use Rattle.tree_remove.proofs.Prelude.{nat_tests, ◌==◌, WriteError}
use Rattle.outside.specs.declared.plots.WriteError.TheVariants as write

-- the answers to the removal of a directory and of all else, where something is there or not, and it is a directory or not
abbrev pub dir_answer : Bool → Bool → Bool → Option WriteError
dir_answer none is empty = cond none (Some write.Absent) (cond (not is) (Some write.WrongKind) (cond empty None (Some write.NotEmpty)))

abbrev pub file_answer : Bool → Bool → Option WriteError
file_answer none is = cond none (Some write.Absent) (cond is (Some write.WrongKind) None)

abbrev pub IsOdd : Option WriteError → Type 0
IsOdd answer = (answer ≡ Some write.Absent) ⊎ (answer ≡ Some write.WrongKind)

-- none: nothing is in the directory
pub dir_goes : (none is empty near : Bool) → dir_answer none is (empty && near) ≡ None → near ≡ true
dir_goes true is empty near h = cc
dir_goes false false empty near h = cc
dir_goes false true true true h = refl
dir_goes false true true false h = cc
dir_goes false true false near h = cc

pub dir_full : (none is empty : Bool) → dir_answer none is empty ≡ Some write.NotEmpty → (is ≡ true) × (empty ≡ false)
dir_full true is empty h = cc
dir_full false false empty h = cc
dir_full false true true h = cc
dir_full false true false h = (refl, refl)

pub file_full : (none is : Bool) → file_answer none is ≡ Some write.NotEmpty → ⊥
file_full true is h = cc
file_full false true h = cc
file_full false false h = cc

-- what is there with its kind is no surprise
pub dir_odd : (none is empty : Bool) → none ≡ false → is ≡ true → IsOdd (dir_answer none is empty) → ⊥
dir_odd true is empty n i h = absurd (false≢true (sym n))
dir_odd false false empty n i h = absurd (false≢true i)
dir_odd false true true n i (inl h) = cc
dir_odd false true true n i (inr h) = cc
dir_odd false true false n i (inl h) = cc
dir_odd false true false n i (inr h) = cc

pub file_odd : (none is : Bool) → none ≡ false → is ≡ false → IsOdd (file_answer none is) → ⊥
file_odd true is n i h = absurd (false≢true (sym n))
file_odd false true n i h = absurd (false≢true (sym i))
file_odd false false n i (inl h) = cc
file_odd false false n i (inr h) = cc

pub no_far : (n : ℕ) → (n == 0) ≡ true → n ≡ 0
no_far n e = grind (arith, nat_tests)

pub far_or_some : (n m : ℕ) → ((n == 0) && (m == 0)) ≡ false → (0 < m) ⊎ (0 < n)
far_or_some n m e = grind (arith, nat_tests)
