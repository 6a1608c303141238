-- The names from elsewhere that the proofs of this crate cite, passed on from one place. Declares nothing.
pub use Rattle.std.proofs.Common.{Bool, IfSome, List, None, Option, Some, [], ap, arith, cond, false, get_or, inl, inr, is_some, length, length-append}
pub use Rattle.std.proofs.Common.{length-take, map, min, nat_eq, refl, rules, subst, sym, take, true, ℕ, ⊎_elim, ◌++◌, ◌+◌, ◌||◌, ◌∙◌, ◌∷◌, ◌≡◌, ◌≢◌, ◌≤◌}
pub use Rattle.std.proofs.lemmas.Bool.{false≢true}
pub use Rattle.std.proofs.lemmas.Bool.Decides.{nat_tests}
pub use Rattle.std.proofs.lemmas.List.Elements.{All-filter, All-from_recursion, recursion_from_All}
pub use Rattle.std.specs.Cmp.Lexicographic.{bytes_decides}
pub use Rattle.std.specs.FinMap.{get}
pub use Rattle.std.specs.List.{All, AllByRecursion, Contains, filter, flat_map, starts_with}
pub use Rattle.std.specs.List.Sorted.{IsStrictlySortedBy}
pub use Rattle.std.specs.Option.{option_map}
pub use Rattle.std.specs.Prelude.{◌==◌}
pub use Rattle.path_text.proofs.Parts.{front_other}
pub use Rattle.path_text.proofs.Within.{some_bytes}
pub use Rattle.path_text.specs.Order.{front, path_cmp}
pub use Rattle.outside.specs.Count.{StoodStill}
pub use Rattle.outside.specs.Tree.{Files, Node, far_at, is_root, kind_of, stat_of}
pub use Rattle.outside.specs.declared.trees.Stat.{Stat}
pub use Rattle.entry_pages.specs.declared.entries.Entry.{Entry}
pub use Rattle.entry_pages.specs.declared.entries.Mark.{Mark}
pub use Rattle.flat_list.specs.Spelling.{paths}
pub use Rattle.tree_walk.specs.Roots.{is_in, is_in_some}
pub use Rattle.tree_walk.specs.Told.{EntriesAreTold, far_by, stat_by}
pub use Rattle.tree_walk.specs.Walk.{answers_in, walk}
pub use Rattle.find_tests.specs.Tests.{is_selected, meets_all}
pub use Rattle.find_tests.specs.declared.testing.Test.{Test}
pub use Rattle.level_work.specs.declared.items.Fate.{Fate}
pub use Rattle.tree_remove.specs.Laws.{AreWhole, WholeChoicesGo}
pub use Rattle.tree_remove.specs.Removing.{AreChosen, AreThere, Removed, SameButChosen}
pub use Rattle.tool_words.specs.Asked.{Choice, RemoveAsked, choice_in, roots}
pub use Rattle.tool_words.specs.Limits.{Lower, Valid, WithinRemove}
pub use Rattle.tool_words.specs.declared.commands.Common.{Common}
pub use Rattle.tool_text.specs.Lines.{lines_of}
pub use Rattle.tool_text.specs.NoteOrder.{AreInOrder, NothingToOrder}
pub use Rattle.tool_text.specs.Notes.{entry_notes, mark_whys, note_lines, notes_of, number_whys, whys_of}
pub use Rattle.tool_text.specs.declared.noting.Note.{Note}
pub use Rattle.tool_text.specs.declared.noting.Why.{Why}
pub use Rattle.run_report.specs.Sides.{Side, side_of, side_with}
pub use Rattle.run_report.specs.declared.reports.Report.{Report}
pub use Rattle.run_report.specs.declared.stops.Stop.{Stop}
pub use Rattle.run_entries.proofs.Fine.{of_told, some_of}
pub use Rattle.run_entries.specs.Entries.{Finds}
pub use Rattle.run_entries.specs.Fine.{DoneNamesNothing, FineFindsNameNothing, FineFindsStopForMemory, FineWalksNameNothing, IsFineSide, StillCounts}
pub use Rattle.run_entries.specs.Naming.{on_side, removal_notes}
pub use Rattle.run_entries.specs.Stopping.{StopsFinding}
pub use Rattle.run_entries.specs.declared.accounts.Account.{Account}
pub use Rattle.remove_report.specs.Choosing.{Acts, Chooses, Removes}
pub use Rattle.remove_report.specs.Laws.{FineRemoveSucceeds}
pub use Rattle.remove_report.specs.Removing.{FineRemove, LeavesBy, LeavesRemove, ReportsRemove, StopsRemove, remove_asked, removed_line}
