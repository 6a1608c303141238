-- The names from elsewhere that the contracts of this crate cite, passed on from one place. Declares nothing.
pub use Rattle.std.specs.List.{enumerate_from, flat_map, list_any}
pub use Rattle.std.specs.List.Sorted.{IsPermutation, IsSorted, IsSortedByKey, IsStrictlySortedBy}
pub use Rattle.std.specs.Option.{option_copied}
pub use Rattle.std.specs.Ordering.{is_lt}
pub use Rattle.std.specs.Prelude.{All, IfErr, IfNone, IfOk, IfSome, List, None, OnErr, OnOk, Some, [], drop, false, is_some, length, map, slice_index, true}
pub use Rattle.circle_lists.specs.Checkpoint.{AllFit, HoldLists}
pub use Rattle.circle_lists.specs.Spelling.{IsRank}
pub use Rattle.run_report.specs.Prelude.{RoseBy, SameBut, is_of, is_root, is_shaped, nothing_lent, path_cmp, paths, side_of}
pub use Rattle.run_entries.specs.Saving.{SameButAll}
