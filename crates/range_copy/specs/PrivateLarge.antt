-- The copy of the large files of a list, once all else is copied. Only the contracts of this crate's own parts cite it.
use Rattle.std.specs.Prelude.{◌≡◌, ℕ, Bool, true, false, not, ◌&&◌, List, length, Option, Some, None, if◌then◌else◌, nat_eq, nat_le}
use Rattle.std.specs.Prelude.{slice_get}
use Rattle.std.specs.FinMap.{get}
use Rattle.std.specs.List.{AllZip, list_any, sum_by, zip}
use Rattle.std.specs.Cmp.Lexicographic.{pointwise}
use Rattle.path_text.specs.Path.{parent_of, refusal}
use Rattle.outside.specs.Tree.{Files, is_dir, is_root}
use Rattle.entry_pages.specs.Entries.{bytes_by, size_by}
use Rattle.entry_pages.specs.declared.entries.Entry.{Entry}
use Rattle.level_work.specs.declared.items.Fate.{Fate}
use Rattle.level_work.specs.declared.items.Fate.TheVariants as fate
use Rattle.level_work.specs.Counts.{is_done}
use Rattle.level_work.specs.PathSets.{has_path}
use Rattle.tree_copy.specs.Copying.{target_of}
use Rattle.tree_copy.specs.declared.pairs.Pair.{Pair}
use Rattle.range_copy.specs.Large.{IsSource}
use Rattle.range_copy.specs.declared.came.Came.{Came}
use Rattle.range_copy.specs.declared.came.Came.TheVariants as came

-- a path, if it is not longer than a path may be
abbrev pub fitting : List ℕ → Option (List ℕ)
fitting path = if nat_le (length path) 4095 then Some path else None

abbrev pub fitting_target : List Pair → List ℕ → Option (List ℕ)
fitting_target pairs path = fitting (target_of pairs path)

-- the target of an entry that did not come to `Done`
abbrev pub failed_at : List Pair → List (List ℕ × Fate) → List ℕ → Bool
failed_at pairs rows q = list_any (λ row. pointwise nat_eq (target_of pairs row.0) q && not (is_done row.1)) rows

-- these are the targets of the rows that did not come to `Done`, as far as they are paths
abbrev pub AreFailed : List Pair → List (List ℕ × Fate) → List (List ℕ) → Type 0
AreFailed pairs rows paths = (q : List ℕ) → nat_le (length q) 4095 ≡ true → has_path paths q ≡ failed_at pairs rows q

abbrev pub fate_of : Came → Fate
fate_of came.Done = fate.Done
fate_of came.Failed = fate.Failed
fate_of came.Conflict = fate.Conflict
fate_of came.Changed = fate.Changed

-- the row of an entry: its path, and a fate of which this is so
abbrev pub IsRow : (Entry → Fate → Type 0) → Entry → List ℕ × Fate → Type 0
IsRow P e row = (row.0 ≡ e.path) × P e row.1

abbrev pub AreRows : (Entry → Fate → Type 0) → List Entry → List (List ℕ × Fate) → Type 0
AreRows P es rows = AllZip (IsRow P) es rows

-- the bytes of the copied files, by the sizes of their entries
abbrev pub gain : Entry → Fate → ℕ
gain e f = if is_done f then bytes_by e.stat else 0

abbrev pub bytes_over : List Entry → List (List ℕ × Fate) → ℕ
bytes_over es rows = sum_by (λ one. gain one.0 one.1.1) (zip es rows)

-- the path is the target of one of these entries
abbrev pub is_target_of : List Pair → List Entry → List ℕ → Bool
is_target_of pairs es q = list_any (λ e. pointwise nat_eq q (target_of pairs e.path)) es

-- every path but their targets is as before
abbrev pub SameButFor : List Pair → List Entry → Files → Files → Type 0
SameButFor pairs es before after = (q : List ℕ) → is_target_of pairs es q ≡ false → get after q ≡ get before q

-- a large file can be copied: its source is as its entry says, and its target's parent is a directory, if that one was copied
pub record CanMake (pairs : List Pair) (failed : List (List ℕ)) (e : Entry) (files : Files) : Type 0 where
  pub source : IsSource e.path (size_by e.stat) files
  pub stand : nat_le (length (target_of pairs e.path)) 4095 ≡ true → refusal (target_of pairs e.path) ≡ None
      → has_path failed (parent_of (target_of pairs e.path)) ≡ false → is_dir (get files (parent_of (target_of pairs e.path))) ≡ true

-- no file's target is a source, the parent of a target, or the target of another one
pub record AreApart (pairs : List Pair) (large : List Entry) : Type 0 where
  pub sources : (i j : ℕ) (e l : Entry) → slice_get large i ≡ Some e → slice_get large j ≡ Some l →
      pointwise nat_eq e.path (target_of pairs l.path) ≡ false
  pub parents : (i j : ℕ) (e l : Entry) → slice_get large i ≡ Some e → slice_get large j ≡ Some l
      → pointwise nat_eq (parent_of (target_of pairs e.path)) (target_of pairs l.path) ≡ false
  pub distinct : (i j : ℕ) (e l : Entry) → slice_get large i ≡ Some e → slice_get large j ≡ Some l
      → pointwise nat_eq (target_of pairs e.path) (target_of pairs l.path) ≡ true → i ≡ j
  pub low : (i : ℕ) (e : Entry) → slice_get large i ≡ Some e → is_root (target_of pairs e.path) ≡ false
