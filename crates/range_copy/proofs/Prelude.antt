-- The names from elsewhere that the proofs of this crate cite, passed on from one place. Declares nothing.
pub use Rattle.std.proofs.Common.{Bool, IfSome, List, None, Option, Some, [], ap, append-nil, append_assoc, arith, cond, drop, drop_of_length-le, false, get_or}
pub use Rattle.std.proofs.Common.{inl, inr, is_some, length, length-append, length-take, map, min, nat_eq, not, refl, rules, slice_get, subst, suc, sym, take}
pub use Rattle.std.proofs.Common.{true, vec_len, zero, ℕ, ⊎_elim, ◌&&◌, ◌*◌, ◌++◌, ◌+◌, ◌-◌, ◌/◌, ◌<◌, ◌^◌, ◌||◌, ◌∙◌, ◌∷◌, ◌≡◌, ◌≢◌, ◌≤◌, ◌⊎◌}
pub use Rattle.std.proofs.Math.Nat.{div-mul-le_self, lt-div-mul-add}
pub use Rattle.std.proofs.Math.Numerals.{suc-eq-add-one}
pub use Rattle.std.proofs.Math.Seq.{take-add}
pub use Rattle.std.proofs.lemmas.Bool.{and_from, and_parts, eqb-true, false_from_ne_true, false≢true, lt-ltb, ltb-false, ltb-true, not-true, or_parts}
pub use Rattle.std.proofs.lemmas.Bool.Decides.{nat_tests}
pub use Rattle.std.proofs.lemmas.List.{drop-drop, drop_all, length-drop, length-map, length-reverse, length-take-le, map-append, nil_from_length}
pub use Rattle.std.proofs.lemmas.List.{reverse-append, take-append-le, take_all, take_at, take_more}
pub use Rattle.std.proofs.lemmas.List.Elements.{All-append, All-cons, All-from_recursion, All-nil, recursion_from_All}
pub use Rattle.std.proofs.lemmas.List.Folds.{list_any-append}
pub use Rattle.std.proofs.lemmas.List.Sums.{sum_by-append, sum_by-cons}
pub use Rattle.std.proofs.lemmas.Nat.{div_below}
pub use Rattle.std.proofs.lemmas.Option.{slice_get-get_or}
pub use Rattle.std.proofs.lemmas.Slice.Zip.{all_zipped_more}
pub use Rattle.std.specs.Cmp.Lexicographic.{bytes_decides, pointwise}
pub use Rattle.std.specs.FinMap.{get, get-retain_keys, insert}
pub use Rattle.std.specs.List.{All, AllByRecursion, count_by, list_any, sum_by, zip}
pub use Rattle.std.specs.Option.{option_map}
pub use Rattle.std.specs.Prelude.{Err, IfOk, IsTrue, Ok, OnOk, Result, is_none, nat_le, nat_lt, reverse, slice_index_or, slice_set, ◌==◌}
pub use Rattle.std.specs.Vec.{vec_capacity}
pub use Rattle.std.specs.Vec.Iter.{into_iter_items}
pub use Rattle.std.specs.declared.cmp.Ordering.TheVariants.{Less}
pub use Rattle.path_text.proofs.Carried.{grafted_itself, parent_moves_too}
pub use Rattle.path_text.proofs.Moved.{below_undoes_graft}
pub use Rattle.path_text.proofs.Parents.{parent_is_over, parent_under}
pub use Rattle.path_text.proofs.Parts.{below_made}
pub use Rattle.path_text.proofs.Preordered.{preorder}
pub use Rattle.path_text.proofs.Told.{and_false}
pub use Rattle.path_text.proofs.Under.{contiguous, one_way}
pub use Rattle.path_text.proofs.Within.{same_or_under, some_bytes, under_longer}
pub use Rattle.path_text.specs.Graft.{ParentMovesToo, below_of, grafted}
pub use Rattle.path_text.specs.Order.{IsPreorder, ParentIsOver, UnderIsContiguous, is_under, is_within, path_cmp}
pub use Rattle.path_text.specs.Path.{parent_of, refusal}
pub use Rattle.path_text.specs.Total.{path_cmp_same}
pub use Rattle.outside.proofs.Saved.{at_itself}
pub use Rattle.outside.specs.Asked.{Asks, Write, Writes}
pub use Rattle.outside.specs.Count.{RoseBy, capped}
pub use Rattle.outside.specs.Lease.{in_tops, kept}
pub use Rattle.outside.specs.Parts.{IsTreeIn, UnderDirectories}
pub use Rattle.outside.specs.Spans.{IsEmptyFile, IsRejoined, Piece, are_cuts, area_cut, ascends_above, cuts_in, joined_bytes, pieces, pieces_from, told_bytes}
pub use Rattle.outside.specs.Spans.{zeros_of}
pub use Rattle.outside.specs.Tree.{Body, Files, IsTree, Node, Reads, content, dir, file, is_dir, is_file, is_root, kind_of, link, link_at, other, stat_of}
pub use Rattle.outside.specs.Writes.{Area, SameBut, in_area, is_open, is_top, make_refusal, may_change, new_file, nothing_lent, spliced}
pub use Rattle.outside.specs.declared.plots.WriteError.{WriteError}
pub use Rattle.outside.specs.declared.trees.Kind.{Kind}
pub use Rattle.outside.specs.declared.trees.Stat.{Stat}
pub use Rattle.entry_pages.specs.Entries.{bytes_by, is_kind, is_of, size_by}
pub use Rattle.entry_pages.specs.declared.entries.Entry.{Entry}
pub use Rattle.flat_list.proofs.Decoded.{is_so}
pub use Rattle.flat_list.proofs.Pieces.{all_join}
pub use Rattle.flat_list.proofs.Turns.{no_more}
pub use Rattle.flat_list.specs.Spelling.{paths}
pub use Rattle.level_work.proofs.Crewed.{map_get}
pub use Rattle.level_work.proofs.Giving.{length_set, map_set, split_drop_suc}
pub use Rattle.level_work.proofs.Hands.{if_ok}
pub use Rattle.level_work.proofs.Sets.{turn}
pub use Rattle.level_work.proofs.Stores.{done_is}
pub use Rattle.level_work.proofs.Working.{both_told, same_some}
pub use Rattle.level_work.specs.Counts.{is_done, is_failed}
pub use Rattle.level_work.specs.PathSets.{has_path}
pub use Rattle.level_work.specs.declared.items.Fate.{Fate}
pub use Rattle.tree_copy.proofs.Comes.{weaker}
pub use Rattle.tree_copy.proofs.Copies.{together}
pub use Rattle.tree_copy.proofs.Ends.{Fine, Goes, all_at, at_of, goes, meets, no_root, one_over, one_path, target_by, under_kept}
pub use Rattle.tree_copy.proofs.Fits.{Ascend, ascends, once, told_dir, told_there}
pub use Rattle.tree_copy.proofs.Off.{targets_are_apart}
pub use Rattle.tree_copy.proofs.Places.{Gone, removed_only}
pub use Rattle.tree_copy.proofs.Puts.{answered, free, mapped, put_here, put_others}
pub use Rattle.tree_copy.proofs.Tallies.{moved_on, next_of}
pub use Rattle.tree_copy.specs.Causes.{HasCause, HaveCauses, IsReadTo, IsWritten, LookMeans, ReadMeans, RefusalMeans, ShowsSpans, SpansFailed, WasSpanned}
pub use Rattle.tree_copy.specs.Causes.{by_count, by_look, by_read, by_refusal, by_spans, refusal_means}
pub use Rattle.tree_copy.specs.Copying.{AreEarly, CanCopy, Copied, FitsTree, IsCopied, IsCopyOf, IsEarly, IsLeft, SameButTargets, body_of, bytes_copied}
pub use Rattle.tree_copy.specs.Copying.{clashes, due, early, is_target, is_tried, is_untold, may_fail, or_else, parent_failed, target_of, treated}
pub use Rattle.tree_copy.specs.Placing.{IsPair, overlap}
pub use Rattle.tree_copy.specs.declared.pairs.Pair.{Pair}
pub use Rattle.range_copy.specs.Large.{HasBytes, IsSource, SpansComeBack, in_way}
pub use Rattle.range_copy.specs.PrivateFilling.{AreLoads, HasCounted, HasRange, HasWorked, IsFresh, IsLoad, IsReady, IsShort, loads_of, span_of, spans_left}
pub use Rattle.range_copy.specs.PrivateFilling.{spans_of}
pub use Rattle.range_copy.specs.PrivateLarge.{AreApart, AreFailed, AreRows, CanMake, IsRow, SameButFor, bytes_over, failed_at, fate_of, fitting_target, gain}
pub use Rattle.range_copy.specs.PrivateLarge.{is_target_of}
pub use Rattle.range_copy.specs.PrivateParts.{ArePartsOf, exceeds, has_under, held_of, is_large, is_over, large_of, marks_of, merged, small_of}
pub use Rattle.range_copy.specs.PrivatePlacing.{Leaves, MadeAs, ReplacedAs, freed, refused_as}
pub use Rattle.range_copy.specs.PrivateReading.{FilledBy, IsFreshBy, IsRead}
pub use Rattle.range_copy.specs.PrivateShowing.{AreFilledBy, AreFreshBy, AreRead, HasShown, MadeBy, PlacedBy, ReplacedBy, failures_of}
pub use Rattle.range_copy.specs.PrivateTurns.{AllSee, AreBlamed, AreDone, AreFilled, AreFresh, AreIdle, AreReady, AreShort, FilledAs, IsTurn, came_of}
pub use Rattle.range_copy.specs.PrivateTurns.{faults_of, first_of, hand_of, outcome_of, reader_faults}
pub use Rattle.range_copy.specs.Ranges.{RangesCover, end_of, joined, last_of, least_step, range_cuts, ranges_from, ranges_of, step_of, steps_from}
pub use Rattle.range_copy.specs.declared.came.Came.{Came}
pub use Rattle.range_copy.specs.declared.cutting.RangeError.{RangeError}
pub use Rattle.range_copy.specs.declared.filled.Filled.{Filled}
pub use Rattle.range_copy.specs.declared.fillers.Filler.{Filler}
pub use Rattle.range_copy.specs.declared.folding.Tally.{Tally}
pub use Rattle.range_copy.specs.declared.loads.Load.{Load}
pub use Rattle.range_copy.specs.declared.parting.Parts.{Parts}
