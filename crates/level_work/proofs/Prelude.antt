-- The names from elsewhere that the proofs of this crate cite, passed on from one place. Declares nothing.
pub use Rattle.std.proofs.Common.{Bool, Global, IfSome, List, None, Option, Some, Vec, [], ap, append-nil, append_assoc, arith, cond, drop, eqb, false, inl}
pub use Rattle.std.proofs.Common.{inr, is_some, length, length-append, map, nat_eq, nat_le, nat_lt, not, refl, rules, slice_get, subst, suc, sym, take, true}
pub use Rattle.std.proofs.Common.{zero, ℕ, ⊎_elim, ◌%◌, ◌&&◌, ◌++◌, ◌+◌, ◌-◌, ◌<◌, ◌^◌, ◌||◌, ◌∙◌, ◌∷◌, ◌≡◌, ◌≢◌, ◌≤◌, ◌⊎◌}
pub use Rattle.std.proofs.lemmas.Bool.{and_from, and_parts, false_from_ne_true, false≢true, or_parts, or_right}
pub use Rattle.std.proofs.lemmas.Bool.Decides.{nat_tests}
pub use Rattle.std.proofs.lemmas.List.{length-drop, length-map, length_push, map_push, nil_from_length, take_all}
pub use Rattle.std.proofs.lemmas.List.Folds.{list_any_at}
pub use Rattle.std.proofs.lemmas.List.Sums.{sum_by-append, sum_by-cons}
pub use Rattle.std.proofs.lemmas.Map.Views.{exact_unsigned_eq}
pub use Rattle.std.proofs.lemmas.Option.{get_or_from_slice_get, slice_get-get_or, slice_get_within}
pub use Rattle.std.specs.Cmp.Lexicographic.{bytes_decides, pointwise}
pub use Rattle.std.specs.FinMap.{entries, get, get-entries, get-insert, get-remove, get-retain_keys, retain_keys, same_map}
pub use Rattle.std.specs.List.{AllByRecursion, count_by, list_all, list_any, sum_by}
pub use Rattle.std.specs.Option.{option_map}
pub use Rattle.std.specs.Ordering.{is_eq}
pub use Rattle.std.specs.Prelude.{Err, IfOk, IsTrue, Ok, OnErr, OnOk, Result, slice_index_or, slice_set, ◌↔◌}
pub use Rattle.std.specs.Vec.{vec_capacity, vec_len}
pub use Rattle.std.specs.Vec.Iter.{into_iter_items, into_iter_len}
pub use Rattle.path_text.proofs.Levels.{as_deep, deeper, parent_above, under_deeper}
pub use Rattle.path_text.proofs.Preordered.{longer}
pub use Rattle.path_text.proofs.Under.{less}
pub use Rattle.path_text.proofs.Within.{itself, same_or_under, some_bytes}
pub use Rattle.path_text.specs.Order.{TopsAreNested, is_within, path_cmp}
pub use Rattle.path_text.specs.Path.{level_of, parent_of, refusal}
pub use Rattle.path_text.specs.Total.{path_cmp_same, path_cmp_ties, path_cmp_total}
pub use Rattle.outside.proofs.Leased.{a_top, get_part, get_rest, or_true}
pub use Rattle.outside.proofs.Saved.{at_itself, tie}
pub use Rattle.outside.specs.Count.{capped}
pub use Rattle.outside.specs.Laid.{get_put_all}
pub use Rattle.outside.specs.Lease.{CanLease, HaveParents, Joins, area_with, area_without, in_tops, is_out, kept, leased, same_tops, tops_of, without_tops}
pub use Rattle.outside.specs.Tree.{Files, Node, is_dir, is_root}
pub use Rattle.outside.specs.Writes.{Area, SameBut, all_but, is_apart, is_open, is_top, nothing_lent, under}
pub use Rattle.entry_pages.proofs.Inverse.{slice_end}
pub use Rattle.level_work.specs.Acts.{Alike, AllShow, Deed, IsDone, MakesDirs, at_and_under}
pub use Rattle.level_work.specs.Chain.{ActedIsChain, AllBelow, OneLevel, is_done_path, is_level_done, level_at, mark_at}
pub use Rattle.level_work.specs.Counts.{BlamedAll, NoneAtEnd, NoneFell, is_done, is_failed}
pub use Rattle.level_work.specs.Fates.{ComesAt, EachMayCome, MayCome, is_on, place_of}
pub use Rattle.level_work.specs.Levels.{Acted, AreItems, FailsWith, HasFailedParent, HasFate, ParentsFail, SameButItems, StandIn, found, is_item, left, with_at}
pub use Rattle.level_work.specs.PathSets.{has_path}
pub use Rattle.level_work.specs.Private.Coming.{Came, CameSofar, HaveCome, LevelCame, OneCame}
pub use Rattle.level_work.specs.Private.Crews.{AllBack, AllReady, AllTell, AreOut, AreShares, AreUnder, AtHome, BlamedMore, Comes, Dealt, InLot, InNone}
pub use Rattle.level_work.specs.Private.Crews.{SameActors, SameSeats, SameShares, ShowAll, Stored, comes, stays, tops_in, tops_out}
pub use Rattle.level_work.specs.Private.Dealing.{AreByLevel, AreFailed, AreInTurn, AreOnLevel, DealsOne, DealtTo, FailedAt, In, IsAmong, IsFresh, Knows}
pub use Rattle.level_work.specs.Private.Dealing.{dealt_to, left_out}
pub use Rattle.level_work.specs.Private.Giving.{Giving}
pub use Rattle.level_work.specs.Private.Leasing.{Leasing}
pub use Rattle.level_work.specs.Private.Lots.{AreApart, Blamed, HasWorked, IsAt, Keeps, Ready, SameButFirst, Stepped, Stopped, Upto, WorkedOn, part_area}
pub use Rattle.level_work.specs.Private.Lots.{part_count, part_tree}
pub use Rattle.level_work.specs.Private.Shares.{AreFirstPaths, ArePaths, IsShare}
pub use Rattle.level_work.specs.Private.Steps.{CanStep, Ran, SameButLevel, Sofar, TellsLevel}
pub use Rattle.level_work.specs.Private.Storing.{AreStored, IsLeftOut, IsNoted, IsStored, Notes}
pub use Rattle.level_work.specs.Private.Turns.{Turned}
pub use Rattle.level_work.specs.declared.items.Fate.{Fate}
pub use Rattle.level_work.specs.declared.items.Item.{Item}
pub use Rattle.level_work.specs.declared.items.Order.{Order}
pub use Rattle.level_work.specs.declared.lots.Lot.{Lot}
