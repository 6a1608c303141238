-- The names from elsewhere that the proofs of this crate cite, passed on from one place. Declares nothing.
pub use Rattle.atomic_table.specs.Seated.{TableId}
pub use Rattle.atomic_table.specs.Table.{Allows, Joins, Splits, keeps, opening, step}
pub use Rattle.std.proofs.Common.{Bool, IfSome, IsSome, List, None, Option, Some, [], add-zero, ap, append_assoc, arith, drop, eq-eqb, false, get_or}
pub use Rattle.std.proofs.Common.{get_or-set_other, get_or-set_same, is_some, length, length-append, length-set, map, min, mul-le-mul_right, ne_eqb, refl}
pub use Rattle.std.proofs.Common.{replicate, rules, set, subst, suc, suc-add, sum_by, sym, take, tests, true, zero, zero-add, ℕ, ◌%◌, ◌&&◌, ◌*◌, ◌++◌, ◌+◌, ◌-◌}
pub use Rattle.std.proofs.Common.{◌/◌, ◌<◌, ◌==◌, ◌^◌, ◌∙◌, ◌∷◌, ◌≡◌, ◌≢◌, ◌≤◌}
pub use Rattle.std.proofs.Math.Nat.{le-mul_of_pos_right, suc-mul, zero-mul}
pub use Rattle.std.proofs.Math.Seq.{get_or-append_seam}
pub use Rattle.std.proofs.lemmas.Bool.{false≢true}
pub use Rattle.std.proofs.lemmas.Iterator.{YieldsList-from_slice}
pub use Rattle.std.proofs.lemmas.Iterator.Search.{all_from_yields_List}
pub use Rattle.std.proofs.lemmas.List.{append-nil, ext_get_or, get_or-replicate, get_or_past, get_or_read, length-replicate, map-append}
pub use Rattle.std.proofs.lemmas.List.Elements.{All-append, All-cons, All-nil, Contains-get_or}
pub use Rattle.std.proofs.lemmas.List.Folds.{list_all-map}
pub use Rattle.std.proofs.lemmas.List.FromFn.{get_or-map-range_with_len, length-map-range_with_len, map-range_with_len_more}
pub use Rattle.std.proofs.lemmas.List.Sorted.{Contains-permutation, IsPermutation-sym, length_permutation, sum_by-IsPermutation}
pub use Rattle.std.proofs.lemmas.List.Sums.{sum_by-append, sum_by-cons, sum_by_more_le}
pub use Rattle.std.proofs.lemmas.Simd.{pick_l-range_with_len, pick_l_whole}
pub use Rattle.std.specs.List.{All, Contains, list_all, range_with_len}
pub use Rattle.std.specs.Prelude.{unwrap_or}
pub use lib.ListN.{get_elem?}
pub use lib.Seq.{set-get_or}
pub use mathlib.Core.Logic.{dite}
pub use mathlib.Core.Option.{none, some}
pub use native.Mathlib.Decide.{dec_le, ℕ_discrete}
pub use Rattle.ring_core.proofs.PictureLemmas.{put_all, put_elsewhere, put_here, put_same}
pub use Rattle.ring_core.proofs.SeatLemmas.{Face, Seats, first_seat, seat_deals, seat_joins, seat_knows}
pub use Rattle.ring_core.proofs.TogetherLemmas.{Brings, Gathered, all_know, alone, came, comes_first, comes_next, each_pushed, first_says, numbered, spare}
pub use Rattle.ring_core.specs.Picture.{put}
pub use Rattle.sum_tree.specs.Plain.{fresh_seats, started}
pub use Rattle.sum_tree.specs.Shown.{AllFinished, SumShown, finished, raised, rank_shown, refreshed}
pub use Rattle.sum_tree.specs.Steps.{Reads, coded, is_final_read, number_read}
pub use Rattle.sum_tree.specs.Told.{Sound, SumTold, are_final_below, children_in, count_of, is_final, put_rank, raised_by, rank_of, sum_in, uncounted, word_of}
pub use Rattle.sum_tree.specs.Told.{words_below}
pub use Rattle.sum_tree.specs.Tree.{children, sum_down, sum_of}
pub use Rattle.sum_tree.specs.TreeMoments.{SeatsAreTold, WordsAreTold}
pub use Rattle.sum_tree.specs.TreeReads.{Blocked, Loaded, LoadedFinal}
pub use Rattle.sum_tree.specs.TreeRule.{Moment, Rule, TableState, below, both, dealing, dealt_out, final_of, fresh, opened, row_of, seen_of, spent, told_of}
pub use Rattle.sum_tree.specs.TreeSeats.{IsSeat, IsUnread, first_answer, shown_by}
pub use Rattle.sum_tree.specs.TreeSteps.{FinalTells, LastLookTells, LoadTells, SeatState, StoreTells, Totals, after_load, after_store, knowing, noted}
pub use Rattle.sum_tree.specs.declared.ranks.RankSum.{RankSum}
pub use Rattle.sum_tree.specs.declared.ranks.Reading.{Reading}
pub use Rattle.sum_tree.specs.declared.sum_trees.SumSeat.{SumSeat}
pub use Rattle.sum_tree.specs.declared.sum_trees.SumTree.{SumTree}
pub use Rattle.sum_tree.specs.declared.tree_views.Known.{Known}
pub use Rattle.sum_tree.specs.declared.tree_views.View.{View}
