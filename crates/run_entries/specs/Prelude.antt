-- The names from elsewhere that the contracts of this crate cite, passed on from one place. Declares nothing.
pub use Rattle.std.specs.FinMap.{get}
pub use Rattle.std.specs.List.{flat_map}
pub use Rattle.std.specs.List.Sorted.{IsStrictlySortedBy}
pub use Rattle.std.specs.Option.{option_map, option_to_list}
pub use Rattle.std.specs.Prelude.{All, IfErr, IfOk, IfSome, IsErrOf, List, None, OnOk, Some, [], false, filter, is_some, length, map, true}
pub use Rattle.outside.specs.Whole.{HoldsFile}
pub use Rattle.tree_walk.specs.Found.{FoundTooMany, IfTooMany, IsFound}
pub use Rattle.tree_walk.specs.Roots.{Apart}
pub use Rattle.find_tests.specs.Tests.{is_selected}
pub use Rattle.tree_cmp.specs.Readers.{StatsTold}
pub use Rattle.tree_cmp.specs.Sides.{IsSide, side}
pub use Rattle.tool_words.specs.Asked.{choice_in, input, roots, start_in}
pub use Rattle.run_report.specs.Prelude.{AreInOrder, CommonWithin, RoseBy, SameBut, is_file, is_shaped, max_entries, note_lines, nothing_lent, path_cmp, paths}
pub use Rattle.run_report.specs.Prelude.{refusal, side_of, summary_of}
