-- A removal at one path. Only the contracts of this crate's own parts cite it.
use Rattle.std.specs.Prelude.{⊤, ◌≡◌, ◌⊎◌, ℕ, List, length, if◌then◌else◌, map, Option, Some, None}
use Rattle.std.specs.FinMap.{get, remove}
use Rattle.outside.specs.declared.plots.WriteError.{WriteError}
use Rattle.outside.specs.declared.plots.WriteError.TheVariants as write
use Rattle.outside.specs.declared.trees.Kind.TheVariants as kind
use Rattle.outside.specs.Tree.{Files}
use Rattle.outside.specs.Writes.{remove_dir_refusal, remove_file_refusal}
use Rattle.entry_pages.specs.declared.entries.Entry.{Entry}
use Rattle.entry_pages.specs.Entries.{is_of}
use Rattle.level_work.specs.Acts.{Deed}
use Rattle.level_work.specs.declared.items.Item.{Item}
use Rattle.level_work.specs.declared.items.Fate.{Fate}
use Rattle.level_work.specs.declared.items.Fate.TheVariants as fate

-- why the node at the path can't be removed as the entry says
abbrev pub removal_refusal : Entry → Files → List ℕ → Option WriteError
removal_refusal entry files path = if is_of kind.Dir entry.stat then remove_dir_refusal files path else remove_file_refusal (get files path)

-- the fate that a refusal means; a refusal for lack of memory means none
abbrev pub told_fate : WriteError → Fate
told_fate write.Failed = fate.Failed
told_fate write.NotEmpty = fate.NotEmpty
told_fate _ = fate.Changed

-- which fate a removal may have, and the nodes that it leaves at and under its path
abbrev pub Removal : Deed
Removal path entry fate.Done before after = (removal_refusal entry before path ≡ None) × (after ≡ remove before path)
Removal path entry fate.NotEmpty before after = (removal_refusal entry before path ≡ Some write.NotEmpty) × (after ≡ before)
Removal path entry fate.Changed before after =
    ((removal_refusal entry before path ≡ Some write.Absent) ⊎ (removal_refusal entry before path ≡ Some write.WrongKind)) × (after ≡ before)
Removal path entry fate.Failed before after = ⊤
Removal path entry fate.Conflict before after = ⊥
Removal path entry fate.Skipped before after = ⊥
Removal path entry fate.ParentFailed before after = ⊥
Removal path entry fate.TooLong before after = ⊥

-- the item of an entry
abbrev pub item_of : Entry → Item
item_of e = record { path = e.path; entry = e }

abbrev pub items_of : List Entry → List Item
items_of chosen = map item_of chosen
