-- The names from elsewhere that the proofs of this crate cite, passed on from one place. Declares nothing.
pub use Rattle.std.proofs.Common.{Bool, IfSome, List, None, Option, Some, [], add-one, ap, arith, cond, drop, false, filter, inr, length, map, not, refl, rules}
pub use Rattle.std.proofs.Common.{subst, suc, sym, take, true, zero, ℕ, ⊎_elim, ◌&&◌, ◌++◌, ◌+◌, ◌<◌, ◌||◌, ◌∙◌, ◌∷◌, ◌≡◌, ◌≤◌}
pub use Rattle.std.proofs.Math.ListN.{get_or}
pub use Rattle.std.proofs.Math.Seq.{drop-cons, take-suc}
pub use Rattle.std.proofs.lemmas.Bool.{false≢true, or_parts}
pub use Rattle.std.proofs.lemmas.Bool.Decides.{nat_tests}
pub use Rattle.std.proofs.lemmas.List.{take-append-drop, take_all}
pub use Rattle.std.proofs.lemmas.List.Elements.{All-from_recursion, recursion_from_All}
pub use Rattle.std.proofs.lemmas.List.Sorted.{IsPermutation-refl}
pub use Rattle.std.proofs.lemmas.List.Sums.{sum_by-cons}
pub use Rattle.std.specs.Cmp.Lexicographic.{bytes_decides, pointwise}
pub use Rattle.std.specs.FinMap.{get, get-insert, insert}
pub use Rattle.std.specs.List.{All, AllByRecursion, Contains, flat_map, list_any, sum_by}
pub use Rattle.std.specs.List.Sorted.{IsStrictlySortedBy}
pub use Rattle.std.specs.Option.{is_none, is_some, option_map}
pub use Rattle.std.specs.Ordering.{eq_by_cmp}
pub use Rattle.std.specs.Prelude.{Err, IfErr, IfOk, IsTrue, Ok, Result, nat_eq, ◌==◌}
pub use Rattle.std.specs.declared.cmp.Ordering.TheVariants.{Less}
pub use Rattle.path_text.proofs.Fronts.{fronts_within}
pub use Rattle.path_text.specs.Order.{is_within, path_cmp}
pub use Rattle.path_text.specs.Path.{parent_of, refusal}
pub use Rattle.path_text.specs.Total.{path_cmp_ties, path_cmp_total}
pub use Rattle.outside.specs.Count.{RoseBy, StoodStill}
pub use Rattle.outside.specs.Tree.{Body, Files, IsTree, Node, dir, file, is_dir, is_dir_body, is_file, is_file_body, is_root, link, other, stat_of}
pub use Rattle.outside.specs.Whole.{HoldsFile, can_save}
pub use Rattle.outside.specs.Writes.{SameBut, new_file, nothing_lent}
pub use Rattle.outside.specs.declared.trees.Stat.{Stat}
pub use Rattle.path_looks.proofs.Told.{none_counted}
pub use Rattle.path_looks.specs.Looks.{AreLooks, LooksWithoutFaultsAreTold, is_at}
pub use Rattle.path_looks.specs.declared.looks.Look.{Look}
pub use Rattle.path_looks.specs.declared.looks.Seen.{Seen}
pub use Rattle.entry_pages.specs.Entries.{is_shaped, mark_notes, note_count, summary_of}
pub use Rattle.entry_pages.specs.declared.entries.Entry.{Entry}
pub use Rattle.entry_pages.specs.declared.entries.Mark.{Mark}
pub use Rattle.flat_list.specs.Spelling.{IsRefused, IsTooLong, RefusesExactly, Spells, SpellsAs, SpellsOne, max_entries, paths}
pub use Rattle.flat_list.specs.declared.versions.Version.TheVariants.{Two}
pub use Rattle.tree_walk.specs.Cut.{found_in}
pub use Rattle.tree_walk.specs.Found.{FoundTooMany, IfTooMany, IsFound, IsWalkOf}
pub use Rattle.tree_walk.specs.Roots.{IsRoots, RootsAreUnique, is_in, is_in_some}
pub use Rattle.tree_walk.specs.Told.{EntriesAreTold, IsTold, stat_by}
pub use Rattle.tree_walk.specs.Traced.{IsProgressTo, IsTracedWalk, WasWalked}
pub use Rattle.tree_walk.specs.Walk.{WalkWithoutFaultsIsFine, all_told, answers_in, walk, weight_of}
pub use Rattle.tree_walk.specs.declared.errors.WalkError.{WalkError}
pub use Rattle.find_tests.specs.Tests.{is_selected}
pub use Rattle.tree_cmp.specs.Readers.{StatsTold}
pub use Rattle.tree_cmp.specs.Sides.{IsSide, side}
pub use Rattle.level_work.specs.declared.items.Fate.{Fate}
pub use Rattle.tool_words.specs.Asked.{Choice, Origin, choice_in, input, roots, start_in}
pub use Rattle.tool_words.specs.Limits.{CommonWithin, Valid, paths_in}
pub use Rattle.tool_words.specs.declared.commands.Common.{Common}
pub use Rattle.tool_text.specs.NoteOrder.{AreInOrder, NothingToOrder}
pub use Rattle.tool_text.specs.Notes.{mark_whys, notes_of, number_whys, whys_of}
pub use Rattle.run_report.specs.Sides.{Side, side_of, side_with}
pub use Rattle.run_report.specs.declared.stops.Stop.{Stop}
pub use Rattle.run_entries.specs.Choosing.{newer_in, newer_than}
pub use Rattle.run_entries.specs.Entries.{Listed, Tells, Walked}
pub use Rattle.run_entries.specs.Fine.{DoneNamesNothing, FineFindsNameNothing, FineFindsStopForMemory, FinePlacesStopForMemory, FineWalksAreWhole}
pub use Rattle.run_entries.specs.Fine.{FineWalksNameNothing, FineWalksStopForMemory, IsFineList, IsFineStart, IsFineWalk, StillCounts}
pub use Rattle.run_entries.specs.Naming.{copy_notes, copy_whys, failures_in, listing_notes, look_notes, look_whys, notes_by, on_side, path_notes, removal_notes}
pub use Rattle.run_entries.specs.Naming.{removal_whys}
pub use Rattle.run_entries.specs.Saving.{SameButAll, SameButOutputs, Saved, SavedAt, output_of}
pub use Rattle.run_entries.specs.Stopping.{HasTooManyEntries, IsAbsent, IsDamagedList, StopsAt, StopsFinding, StopsListing, StopsSaving, stop_of_walk}
pub use Rattle.run_entries.specs.Tells.{IsAccount, keeps_events, options_of}
pub use Rattle.run_entries.specs.declared.accounts.Entries.{Entries}
pub use Rattle.run_entries.specs.declared.saving.Output.{Output}
