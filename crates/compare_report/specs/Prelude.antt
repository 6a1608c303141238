-- The names from elsewhere that the contracts of this crate cite, passed on from one place. Declares nothing.
pub use Rattle.std.specs.Cmp.Lexicographic.{pointwise}
pub use Rattle.std.specs.List.{list_any}
pub use Rattle.std.specs.List.Sorted.{IsStrictlySortedBy}
pub use Rattle.std.specs.Prelude.{All, IfErr, IfOk, OnOk, [], filter, length, map, nat_eq, not, true}
pub use Rattle.tree_cmp.specs.Expressions.{only_dest}
pub use Rattle.tree_cmp.specs.Passes.{IsPassed}
pub use Rattle.tree_cmp.specs.Rows.{IsComparison}
pub use Rattle.tree_cmp.specs.Sides.{IsSide, side}
pub use Rattle.tool_words.specs.Limits.{WithinCompare}
pub use Rattle.tool_text.specs.Rows.{rows_text}
pub use Rattle.run_report.specs.Prelude.{AreInOrder, RoseBy, is_shaped, note_lines, nothing_lent, path_cmp, paths, side_of}
pub use Rattle.run_entries.specs.Both.{AreSides}
