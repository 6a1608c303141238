-- The names that contracts of the rooms cite, passed on from one place. Declares nothing.
pub use Rattle.flat_list.specs.Prelude.{refusal, parent_of, joined, level_of, path_cmp, is_within, grafted}
pub use Rattle.flat_list.specs.Prelude.{below_of, RoseBy, capped, Files, IsTree, stat_of, content, is_file, is_dir}
pub use Rattle.flat_list.specs.Prelude.{is_root, Cut, nothing_lent, all_but, is_open, is_top, under, SameBut}
pub use Rattle.flat_list.specs.Prelude.{may_empty, Entry, is_shaped, is_of, is_kind, summary_of, paths, max_entries}
pub use Rattle.tool_words.specs.Limits.{CommonWithin}
pub use Rattle.tool_text.specs.NoteOrder.{AreInOrder}
pub use Rattle.tool_text.specs.Notes.{note_lines}
pub use Rattle.run_report.specs.Sides.{side_of}
