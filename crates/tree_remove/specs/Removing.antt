-- The removal of chosen paths, the deepest first, and all other paths. Our own, after drm of mpiFileUtils.
use Rattle.std.specs.Prelude.{◌≡◌, ◌≢◌, ◌⊎◌, ◌↔◌, ℕ, ◌<◌, true, false, List, map, if◌then◌else◌, nat_eq, All}
use Rattle.std.specs.Prelude.{Option, Some, None, is_some, Result, Ok, Err}
use Rattle.std.specs.FinMap.{get}
use Rattle.std.specs.List.{list_any, zip}
use Rattle.std.specs.List.Sorted.{IsStrictlySortedBy}
use Rattle.std.specs.Cmp.Lexicographic.{pointwise}
use Rattle.std.specs.Option.{option_map}
use Rattle.path_text.specs.Order.{path_cmp, is_under}
use Rattle.outside.specs.Asked.{Write, Writes}
use Rattle.outside.specs.Asked as asked
use Rattle.outside.specs.declared.plots.WriteError.{WriteError}
use Rattle.outside.specs.declared.plots.WriteError.TheVariants as write
use Rattle.outside.specs.declared.trees.Kind.TheVariants as kind
use Rattle.outside.specs.Tree.{Files, is_dir, is_root, far_at, kind_of}
use Rattle.entry_pages.specs.declared.entries.Entry.{Entry}
use Rattle.entry_pages.specs.Entries.{is_of}
use Rattle.flat_list.specs.Spelling.{paths}
use Rattle.level_work.specs.declared.items.Fate.{Fate}
use Rattle.level_work.specs.declared.items.Fate.TheVariants as fate

-- entries that can be chosen: in path order, each with a stat, and none of them `/`
pub record AreChosen (chosen : List Entry) : Type 0 where
  pub ascend : IsStrictlySortedBy path_cmp (paths chosen)
  pub stats : All (λ e. is_some e.stat ≡ true) chosen
  pub lower : All (λ e. is_root e.path ≡ false) chosen

-- each path is in the tree, as a node of its entry's kind
abbrev pub AreThere : List Entry → Files → Type 0
AreThere chosen files = All (λ e. option_map (λ n. kind_of n.body) (get files e.path) ≡ option_map (λ stat. stat.kind) e.stat) chosen

-- a node is under the path
pub record HasUnder (files : Files) (path : List ℕ) : Type 0 where
  pub what : List ℕ
  pub under : is_under what path ≡ true
  pub there : is_some (get files what) ≡ true

-- no node is under the path
abbrev pub NothingUnder : Files → List ℕ → Type 0
NothingUnder files path = (q : List ℕ) → is_under q path ≡ true → get files q ≡ None

-- one chosen path, by the map before all removals and the one after them
pub record WasChosen (before after : Files) (path : List ℕ) (f : Fate) : Type 0 where
  pub gone : f ≡ fate.Done → get after path ≡ None
  pub not_empty : f ≡ fate.NotEmpty → (is_dir (get after path) ≡ true) × ((0 < far_at (get after path)) ⊎ HasUnder after path)
  pub kept : f ≡ fate.NotEmpty → get after path ≡ get before path
  -- of the node of a path whose removal failed nothing is said, but that a directory stays if a node is under it
  pub failed : f ≡ fate.Failed → HasUnder after path → is_dir (get after path) ≡ true
  pub no_other : (f ≡ fate.Done) ⊎ ((f ≡ fate.NotEmpty) ⊎ (f ≡ fate.Failed))
  -- unless its own removal failed, it goes exactly if no child of it has too long a path and all nodes under it go
  pub exact : f ≢ fate.Failed → (get after path ≡ None) ↔ ((far_at (get before path) ≡ 0) × NothingUnder after path)

-- every path but these is as before
abbrev pub SameButChosen : List (List ℕ) → Files → Files → Type 0
SameButChosen chosen before after = (q : List ℕ) → list_any (pointwise nat_eq q) chosen ≡ false → get after q ≡ get before q

-- chosen paths with their fates: each was removed or not as its fate says, and nothing else has changed
pub record Removed (rows : List (List ℕ × Fate)) (before after : Files) : Type 0 where
  pub others : SameButChosen (map (λ row. row.0) rows) before after
  pub each : All (λ row. WasChosen before after row.0 row.1) rows

-- the answers: this holds over all files, also over files that show no tree

-- the call that removes the node of an entry
abbrev pub removal_of : Entry → Write
removal_of e = if is_of kind.Dir e.stat then asked.remove_dir else asked.remove_file

-- the fate that its answer means; a refusal for lack of memory means none
abbrev pub fate_told : Result (Unit {0}) WriteError → Option Fate
fate_told (Ok done) = Some fate.Done
fate_told (Err write.Failed) = Some fate.Failed
fate_told (Err write.NotEmpty) = Some fate.NotEmpty
fate_told (Err write.Absent) = Some fate.Changed
fate_told (Err write.WrongKind) = Some fate.Changed
fate_told (Err write.Exists) = Some fate.Changed
fate_told (Err write.NoParent) = Some fate.Changed
fate_told (Err write.OutOfMemory) = None

-- that call was made at the path, and its answer means this fate
pub record ShowsFate {S : Type 0} (gives : Writes S) (path : List ℕ) (e : Entry) (f : Fate) : Type 0 where
  pub before : S
  pub answer : Result (Unit {0}) WriteError
  pub after : S
  pub given : gives before path (removal_of e) answer after
  pub means : fate_told answer ≡ Some f

-- the same of all chosen entries, each at its own path
abbrev pub HaveCauses : {S : Type 0} → Writes S → List Entry → List (List ℕ × Fate) → Type 0
HaveCauses gives chosen rows = All (λ one. ShowsFate gives one.0.path one.0 one.1.1) (zip chosen rows)
