-- The names from elsewhere that the contracts of this crate cite, passed on from one place. Declares nothing.
pub use Rattle.std.specs.List.Sorted.{IsStrictlySortedBy}
pub use Rattle.std.specs.Option.{option_map}
pub use Rattle.std.specs.Prelude.{All, IfErr, IfOk, IfSome, None, OnOk, Some, [], is_some, length, map, true}
pub use Rattle.tree_walk.specs.Cut.{IsJoined, found_in}
pub use Rattle.tree_walk.specs.Roots.{Apart}
pub use Rattle.tree_walk.specs.Walk.{paths_of}
pub use Rattle.tool_words.specs.Limits.{WithinStage}
pub use Rattle.run_report.specs.Prelude.{CommonWithin, RoseBy, is_shaped, max_entries, nothing_lent, path_cmp, paths, side_of}
pub use Rattle.run_entries.specs.Saving.{SameButAll}
pub use Rattle.checkpoints.specs.Kept.{IsKept, checkpoint_paths}
pub use Rattle.checkpoints.specs.Stopping.{StopsReading, StopsWriting}
