-- Laws of targets, and when every entry is copied. Our own.
use Rattle.std.specs.Prelude.{◌≡◌, ℕ, ◌<◌, ◌≤◌, Bool, true, false, List, length, map, None, Ok, All}
use Rattle.std.specs.FinMap.{get}
use Rattle.std.specs.List.{list_any, count_by}
use Rattle.path_text.specs.Order.{is_within}
use Rattle.path_text.specs.Path.{refusal}
use Rattle.outside.specs.Tree.{Files}
use Rattle.outside.specs.declared.trees.Kind.TheVariants as kind
use Rattle.entry_pages.specs.declared.entries.Entry.{Entry}
use Rattle.entry_pages.specs.Entries.{is_of}
use Rattle.flat_list.specs.Spelling.{paths}
use Rattle.level_work.specs.Counts.{is_failed}
use Rattle.level_work.specs.declared.items.Fate.{Fate}
use Rattle.level_work.specs.declared.items.Fate.TheVariants as fate
use Rattle.tree_copy.specs.Copying.{CanCopy, Copied, clashes, ends_of, is_target, is_untold, target_of, treated}
use Rattle.tree_copy.specs.Placing.{IsPair, overlap, placed}
use Rattle.tree_copy.specs.declared.pairs.Pair.{Pair}

-- no target is `/`, which is the only path of one byte: neither of pairs that are apart, nor of those that were placed
pub record TargetsAreLong : Type 0 where
  pub of_apart : (pairs : List Pair) → overlap (ends_of pairs) ≡ false → All IsPair pairs → All (λ pair. 1 < length pair.target) pairs
  pub of_placed : (in_dir over_dir : Bool) (dest : List ℕ) (sources : List (List ℕ)) (pairs : List Pair) → refusal dest ≡ None →
      All (λ source. refusal source ≡ None) sources → placed in_dir over_dir dest sources ≡ Ok pairs → All (λ pair. 1 < length pair.target) pairs

-- the path is a source, or is under one
abbrev pub is_in_source : List Pair → List ℕ → Bool
is_in_source pairs path = list_any (λ pair. is_within path pair.source) pairs

-- if pairs are apart, no path of a source is a target, and no two of them have one target
pub record TargetsAreApart : Type 0 where
  pub off_sources : (list : List Entry) (pairs : List Pair) (path : List ℕ) → CanCopy list pairs → All IsPair pairs →
      All (λ e. refusal e.path ≡ None) list → is_in_source pairs path ≡ true → is_target pairs list path ≡ false
  pub one_each : (pairs : List Pair) (path other : List ℕ) → overlap (ends_of pairs) ≡ false → All IsPair pairs → refusal path ≡ None →
      refusal other ≡ None → is_in_source pairs path ≡ true → is_in_source pairs other ≡ true →
      target_of pairs path ≡ target_of pairs other → path ≡ other

-- an entry that can be copied: its kind is not `Other`, its target is not too long, and no node of another kind is there
pub record IsFineEntry (files : Files) (pairs : List Pair) (e : Entry) : Type 0 where
  pub kind : is_of kind.Other e.stat ≡ false
  pub short : length (target_of pairs e.path) ≤ 4095
  pub free : clashes e.stat (get files (target_of pairs e.path)) ≡ false

-- if no copy failed, every entry comes to `Done`, provided that all can be copied and the text of each link is known
abbrev pub FineEntriesAreCopied : Type 0
FineEntriesAreCopied =
    (list : List Entry) (pairs : List Pair) (rows : List (List ℕ × Fate)) (before after : Files) →
    All (λ pair. 1 < length pair.target) pairs → map (λ row. row.0) rows ≡ paths (treated list) → Copied list pairs rows before after →
    All (IsFineEntry before pairs) (treated list) → All (λ e. is_untold e ≡ false) (treated list) →
    count_by (λ row. is_failed row.1) rows ≡ 0 → All (λ row. row.1 ≡ fate.Done) rows
