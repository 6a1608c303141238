-- The names from elsewhere that the proofs of this crate cite, passed on from one place. Declares nothing.
pub use Rattle.std.proofs.Common.{IfSome, List, None, Option, Some, [], ap, arith, cond, false, inl, inr, length, refl, rules, subst, suc, sym, true, zero, ℕ}
pub use Rattle.std.proofs.Common.{⊎_elim, ◌-◌, ◌||◌, ◌∙◌, ◌∷◌, ◌≡◌, ◌≤◌}
pub use Rattle.std.proofs.lemmas.Bool.{false≢true}
pub use Rattle.std.proofs.lemmas.Grind.{common_steps}
pub use Rattle.std.proofs.lemmas.List.{length-map}
pub use Rattle.std.proofs.lemmas.List.Elements.{All-from_recursion, recursion_from_All}
pub use Rattle.std.proofs.lemmas.List.Sums.{sum_by-cons}
pub use Rattle.std.proofs.lemmas.Map.Keys.{IsDistinct-from_sorted}
pub use Rattle.std.proofs.lemmas.Map.Made.{is_some-lookup}
pub use Rattle.std.proofs.lemmas.Map.Steps.{length-le_from_keys}
pub use Rattle.std.specs.Cmp.{eq_by_cmp_equiv}
pub use Rattle.std.specs.Cmp.Lexicographic.{bytes_decides}
pub use Rattle.std.specs.FinMap.{contains_key-keys, entries, get, len, len-entries}
pub use Rattle.std.specs.List.{AllByRecursion, Contains, count_by, flat_map, list_any}
pub use Rattle.std.specs.Map.{lookup}
pub use Rattle.std.specs.Option.{IsSome, is_some}
pub use Rattle.std.specs.Ordering.{eq_by_cmp}
pub use Rattle.std.specs.Prelude.{All}
pub use Rattle.path_text.specs.Order.{path_cmp}
pub use Rattle.path_text.specs.Path.{refusal}
pub use Rattle.path_text.specs.Total.{path_cmp_ties, path_cmp_total}
pub use Rattle.outside.specs.Count.{StoodStill}
pub use Rattle.outside.specs.Tree.{Files, IsTree, Node, far_at}
pub use Rattle.outside.specs.Whole.{can_save}
pub use Rattle.test_tree.specs.Laws.{FirstNodeIsThere, NoChildIsFar, NodesAreCounted, TestFilesAreTree}
pub use Rattle.test_tree.specs.Nodes.{test_files}
pub use Rattle.entry_pages.proofs.Counted.{bit}
pub use Rattle.entry_pages.specs.declared.entries.Entry.{Entry}
pub use Rattle.flat_list.proofs.Pieces.{all_join}
pub use Rattle.tree_walk.specs.Roots.{IsRoots, is_in, is_in_some}
pub use Rattle.tree_walk.specs.Walk.{WalkAscends, WalkFindsAll, all_told, children_of, entry_of, paths_of, told, walk_down}
pub use Rattle.tool_words.specs.Asked.{Choice, ListAsked, choice_in, roots}
pub use Rattle.tool_words.specs.Limits.{Valid, WithinList}
pub use Rattle.tool_text.specs.declared.noting.Note.{Note}
pub use Rattle.run_report.specs.Sides.{Side, side_of, side_with}
pub use Rattle.run_report.specs.declared.reports.Report.{Report}
pub use Rattle.run_report.specs.declared.stops.Stop.{Stop}
pub use Rattle.run_entries.specs.Choosing.{chosen_of, tests_in}
pub use Rattle.run_entries.specs.Entries.{Finds}
pub use Rattle.run_entries.specs.Fine.{FineFindsNameNothing, FineFindsStopForMemory, FinePlacesStopForMemory, IsFineSide}
pub use Rattle.run_entries.specs.Saving.{Saved, output_of}
pub use Rattle.run_entries.specs.Stopping.{StopsFinding, StopsSaving}
pub use Rattle.run_entries.specs.declared.accounts.Account.{Account}
pub use Rattle.run_entries.specs.declared.saving.Output.{Output}
pub use Rattle.list_report.specs.Laws.{FineListSucceeds, FineTestSucceeds, MadeWalkIsFine}
pub use Rattle.list_report.specs.Lists.{FineList, ReportsList, StopsList, list_asked}
pub use Rattle.list_report.specs.Tests.{made_root, made_side}
