-- The names that contracts over trees and lists cite, passed on from one place. Declares nothing.
pub use Rattle.path_text.specs.Path.{refusal, parent_of, joined, level_of}
pub use Rattle.path_text.specs.Order.{path_cmp, is_within}
pub use Rattle.path_text.specs.Graft.{grafted, below_of}
pub use Rattle.outside.specs.Count.{RoseBy, capped}
pub use Rattle.outside.specs.Tree.{Files, IsTree, stat_of, content, is_file, is_dir, is_root}
pub use Rattle.outside.specs.Writes.{Cut, nothing_lent, all_but, is_open, is_top, under, SameBut, may_empty}
pub use Rattle.entry_pages.specs.declared.entries.Entry.{Entry}
pub use Rattle.entry_pages.specs.Entries.{is_shaped, is_of, is_kind, summary_of}
pub use Rattle.flat_list.specs.Spelling.{paths, max_entries}
