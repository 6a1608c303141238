-- The names from elsewhere that the proofs of this crate cite, passed on from one place. Declares nothing.
pub use Rattle.std.proofs.Common.{Bool, IfSome, List, None, Option, Some, [], ap, append-nil, append_assoc, arith, cond, drop, drop_of_length-le, false, get_or}
pub use Rattle.std.proofs.Common.{inl, inr, is_some, length, length-append, length-drop, length-take, map, min, nat_eq, nat_lt, not, refl, rules, slice_get}
pub use Rattle.std.proofs.Common.{subst, suc, sym, take, true, zero, ℕ, ⊎_elim, ◌&&◌, ◌*◌, ◌++◌, ◌+◌, ◌-◌, ◌<◌, ◌^◌, ◌||◌, ◌∙◌, ◌∷◌, ◌≡◌, ◌≢◌, ◌≤◌, ◌⊎◌}
pub use Rattle.std.proofs.lemmas.Bool.{false≢true, or_from, or_left, or_parts, or_right}
pub use Rattle.std.proofs.lemmas.Bool.Decides.{nat_tests}
pub use Rattle.std.proofs.lemmas.List.{append_cancel_left, drop_all, get_or-map, length-map, length-take-le, map-append, map_more, take-append-le, take_all}
pub use Rattle.std.proofs.lemmas.List.Elements.{All-filter, All-from_recursion, All-head, All-map, All-more, All-tail, recursion_from_All}
pub use Rattle.std.proofs.lemmas.List.Folds.{list_any-append, list_any_at}
pub use Rattle.std.proofs.lemmas.List.Sums.{length-filter, sum-map, sum_by-cons}
pub use Rattle.std.proofs.lemmas.Option.{slice_get-get_or, slice_get_read}
pub use Rattle.std.proofs.lemmas.Slice.Zip.{firsts-zip}
pub use Rattle.std.specs.Cmp.Lexicographic.{bytes_decides, pointwise}
pub use Rattle.std.specs.FinMap.{get, get-insert, get-remove, insert, remove, same_map}
pub use Rattle.std.specs.List.{All, AllByRecursion, before_last, count_by, filter, list_all, list_any, suffix_len, sum_by, zip}
pub use Rattle.std.specs.Option.{option_map}
pub use Rattle.std.specs.Ordering.{eq_by_cmp}
pub use Rattle.std.specs.Prelude.{Err, IfErr, IfOk, IsTrue, MatchOption, Ok, Result, is_none, nat_le, ◌==◌}
pub use Rattle.std.specs.Vec.Iter.{into_iter_items, into_iter_len}
pub use Rattle.std.specs.declared.cmp.Ordering.TheVariants.{Less}
pub use Rattle.path_text.proofs.Joined.{first_slash}
pub use Rattle.path_text.proofs.Moved.{below_undoes_graft}
pub use Rattle.path_text.proofs.Parents.{base_bare, parent_joined, parent_some, parent_under}
pub use Rattle.path_text.proofs.Parts.{below_made, front_longer, front_other, graft_undoes_below, grafted_names}
pub use Rattle.path_text.proofs.Preorder.{front-joined, some_front}
pub use Rattle.path_text.proofs.Preordered.{longer}
pub use Rattle.path_text.proofs.Under.{is_under_by, names_under, one_way}
pub use Rattle.path_text.proofs.Within.{itself, not_one, same_or_under, some_bytes, tops_are_nested, under_longer, within_root, within_up}
pub use Rattle.path_text.specs.Graft.{below_of, grafted}
pub use Rattle.path_text.specs.Order.{front, is_under, is_within, path_cmp}
pub use Rattle.path_text.specs.Path.{base_of, is_name, is_slash, joined, parent_of, refusal}
pub use Rattle.path_text.specs.Total.{path_cmp_same, path_cmp_ties, path_cmp_total}
pub use Rattle.path_text.specs.declared.errors.OutOfMemory.{OutOfMemory}
pub use Rattle.outside.proofs.Names.{all_weaker}
pub use Rattle.outside.proofs.Saved.{at_itself}
pub use Rattle.outside.specs.Asked.{Asks, Write, Writes}
pub use Rattle.outside.specs.Count.{RoseBy}
pub use Rattle.outside.specs.Parts.{IsTreeIn, UnderDirectories}
pub use Rattle.outside.specs.Tree.{Body, Files, IsTree, Node, Reads, content, dir, file, is_dir, is_dir_body, is_file, is_file_body, is_root, link, link_at}
pub use Rattle.outside.specs.Tree.{other, stat_of, text_of}
pub use Rattle.outside.specs.Writes.{Answers, Area, SameBut, empty_dir, is_top, make_refusal, may_change, new_file, new_link, nothing_lent, remove_file_refusal}
pub use Rattle.outside.specs.Writes.{spliced, time_of, write_refusal, written}
pub use Rattle.outside.specs.declared.failures.Failed.{Failed}
pub use Rattle.outside.specs.declared.plots.WriteError.{WriteError}
pub use Rattle.outside.specs.declared.trees.Kind.{Kind}
pub use Rattle.outside.specs.declared.trees.ReadError.{ReadError}
pub use Rattle.outside.specs.declared.trees.Stat.{Stat}
pub use Rattle.entry_pages.specs.Entries.{bytes_by, is_kind, is_of, size_by}
pub use Rattle.entry_pages.specs.declared.entries.Entry.{Entry}
pub use Rattle.flat_list.specs.Spelling.{paths}
pub use Rattle.level_work.proofs.Frames.{get_at, get_here}
pub use Rattle.level_work.proofs.Giving.{split_drop}
pub use Rattle.level_work.proofs.Hands.{if_ok}
pub use Rattle.level_work.proofs.Stores.{done_is}
pub use Rattle.level_work.proofs.Unfailed.{unfailed}
pub use Rattle.level_work.proofs.Working.{both_told, same_some, some_at}
pub use Rattle.level_work.specs.Acts.{Alike, AllShow, IsDone, MakesDirs, at_and_under}
pub use Rattle.level_work.specs.Counts.{BlamedAll, NoneAtEnd, is_done, is_failed}
pub use Rattle.level_work.specs.Levels.{Acted, AreItems, ParentsFail, SameButItems, StandIn, found, is_item, left, with_at}
pub use Rattle.level_work.specs.declared.items.Fate.{Fate}
pub use Rattle.level_work.specs.declared.items.Item.{Item}
pub use Rattle.tree_copy.specs.Causes.{EndsAt, HasCause, HaveCauses, IsWritten, LookMeans, ReadMeans, RefusalMeans, Shows, ShowsCopy, ShowsFate, ShowsWhy}
pub use Rattle.tree_copy.specs.Causes.{WasWritten, copied, look_means, read_means, refusal_means, stopped, untold}
pub use Rattle.tree_copy.specs.Copying.{AreEarly, CanCopy, Copied, FitsTree, IsCopied, IsCopyOf, IsEarly, IsLeft, SameButTargets, bytes_copied, clashes, due}
pub use Rattle.tree_copy.specs.Copying.{early, ends_of, is_target, is_tried, is_untold, may_fail, or_else, parent_failed, target_of, treated}
pub use Rattle.tree_copy.specs.Laws.{FineEntriesAreCopied, IsFineEntry, TargetsAreApart, TargetsAreLong, is_in_source}
pub use Rattle.tree_copy.specs.Looking.{IsDue}
pub use Rattle.tree_copy.specs.Placing.{IsPair, PlacedAreApart, has_targets, overlap, pairs_in, placed, target_in}
pub use Rattle.tree_copy.specs.PrivateActs.{AllMayCopy, ByReader, Filled, HasFile, IsDirMade, IsFilled, IsPlaced, IsReplaced, MadeAnew, MayCopy}
pub use Rattle.tree_copy.specs.PrivateActs.{ShowsFilled, ShowsPlaced, ShowsReplaced, ShowsSpared, Spared, TellsFate, is_taken, look_fate}
pub use Rattle.tree_copy.specs.PrivateDeeds.{CopyKind, CopyLink, CopyOne, CopyTold, Differ, Holds, LeaveLink, LinkBy, MakeDir, MakeFile, MakeLink, PassOver}
pub use Rattle.tree_copy.specs.PrivateDeeds.{Placed, is_link}
pub use Rattle.tree_copy.specs.PrivateNodes.{Looked, ShowsLeft, call_of, is_old_of, kind_of, node_of}
pub use Rattle.tree_copy.specs.PrivateSettling.{any_odd, bytes_of, fates_of, fitting, gain, has_room, is_odd, is_other, item_of, items_of, placed_of, rest_of}
pub use Rattle.tree_copy.specs.PrivateSettling.{settled, settled_by}
pub use Rattle.tree_copy.specs.declared.anew.NewNode.{NewNode}
pub use Rattle.tree_copy.specs.declared.anew.NewNode.TheVariants.{File, Link}
pub use Rattle.tree_copy.specs.declared.pairs.Pair.{Pair}
pub use Rattle.tree_copy.specs.declared.pairs.PlaceError.{PlaceError}
