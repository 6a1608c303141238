-- The names from elsewhere that the proofs of this crate cite, passed on from one place. Declares nothing.
pub use Rattle.rand_pcg.specs.Lcg.{Lcg}
pub use Rattle.std.proofs.Common.{All, Bool, Bor, Err, IfOk, IsTrue, List, None, Ok, Option, Result, Some, Vec, [], ap, append-nil, append_assoc, arith, cond}
pub use Rattle.std.proofs.Common.{count_by, eq-eqb, false, get_or, get_or-set_other, get_or-set_same, inl, inr, length, length-append, length-set, map, min}
pub use Rattle.std.proofs.Common.{mul-suc, mul-zero, nat_lt, ne_eqb, refl, replicate, rules, set, subst, suc, sym, true, vec_capacity, zero, ℕ, ⊎_elim, ◌%◌}
pub use Rattle.std.proofs.Common.{◌&&◌, ◌*◌, ◌++◌, ◌+◌, ◌-◌, ◌/◌, ◌<◌, ◌==◌, ◌^◌, ◌||◌, ◌∙◌, ◌∷◌, ◌≡◌, ◌≢◌, ◌≤◌, ◌⊎◌}
pub use Rattle.std.proofs.Math.ListN.{get_or-eq_default}
pub use Rattle.std.proofs.Math.Nat.{div-add-mod, mod-eq_of_lt, mod-lt, mul-add-mod_self_left, mul-div-le, suc-mul}
pub use Rattle.std.proofs.Math.Seq.{take-suc}
pub use Rattle.std.proofs.lemmas.Bool.{cases_lt, eqb-true, false_from_ne_true, leb-false, leb-true, ltb-false, ltb-true, or_parts}
pub use Rattle.std.proofs.lemmas.Bool.Decides.{nat_tests}
pub use Rattle.std.proofs.lemmas.List.{get_or-append-add, get_or-map, get_or-replicate, get_or-take, get_or_append_left, get_or_default, get_or_past}
pub use Rattle.std.proofs.lemmas.List.{get_or_push, get_or_read, length-map, length-replicate, length-take-le, length_push, map-append, map-set, map_push}
pub use Rattle.std.proofs.lemmas.List.{nil_from_length, set-get_or, set-set, set_past, take_more_set}
pub use Rattle.std.proofs.lemmas.List.Concat.{flat_map-append, length-flat_map}
pub use Rattle.std.proofs.lemmas.List.Elements.{All-append, All-cons, All-get_or, All-nil, All-tail, Contains-get_or, filter-append}
pub use Rattle.std.proofs.lemmas.List.Folds.{flat_map-map, fold-map, sum_by-replicate}
pub use Rattle.std.proofs.lemmas.List.FromFn.{fill_by_all, get_or-map-range_with_len, get_or-range_with_len, length-map-range_with_len, length-range_with_len}
pub use Rattle.std.proofs.lemmas.List.Sorted.{All-permutation, IsNonDecreasingBy-from_sort_by_key, IsPermutation-refl, IsPermutation-sym, length_permutation}
pub use Rattle.std.proofs.lemmas.List.Sorted.{sum_by-IsPermutation}
pub use Rattle.std.proofs.lemmas.List.Sums.{get_or-le-sum_by, sum-map, sum_by-append, sum_by-cons, sum_by-set, sum_by_push}
pub use Rattle.std.proofs.lemmas.Nat.{mod_below}
pub use Rattle.std.proofs.lemmas.Simd.{map-map}
pub use Rattle.std.specs.Cmp.Lexicographic.{nat_list_eq_equiv, pointwise, same_text}
pub use Rattle.std.specs.List.{Any, Contains, flat_map, range_with_len, sum_by}
pub use Rattle.std.specs.List.Sorted.{IsNonDecreasingBy, IsPermutation}
pub use Rattle.std.specs.Option.{option_map}
pub use Rattle.std.specs.Prelude.{IfSome, IsSome, filter, if◌then◌else◌, is_some, nat_eq, not, slice_index_or}
pub use Rattle.std.specs.Vec.Iter.{into_iter_items, into_iter_len}
pub use Rattle.std.specs.declared.alloc.Global.{Global}
pub use mathlib.Core.Logic.{dite}
pub use native.Mathlib.Decide.{dec_le, dec_lt, ℕ_discrete}
pub use Rattle.rank_queue.specs.Shares.{after_word, equal_share, generator_of, random_share, word}
pub use Rattle.ring_core.proofs.Dealing.{range_more}
pub use Rattle.ring_core.proofs.PictureLemmas.{put_all, put_elsewhere, put_here, put_same}
pub use Rattle.ring_core.proofs.WorldLemmas.{length-ranks_after}
pub use Rattle.ring_core.specs.Picture.{put}
pub use Rattle.ring_core.specs.Run.{HoldsSome, IsRun, NoEmptyBatch, after_all}
pub use Rattle.ring_core.specs.Step.{after, after_giving, differs, holds, is_at, is_refused_by, is_rest, is_token_black, ranks_after, refusal, refused}
pub use Rattle.ring_core.specs.Step.{token_after}
pub use Rattle.ring_core.specs.World.{Seen, darker, dealt, fresh, held, is_black, is_over, on_way_in, queued_in, rank_of, started}
pub use Rattle.ring_core.specs.declared.events.Event.{Event}
pub use Rattle.ring_core.specs.declared.events.Event.TheVariants.{Ask, Conclude, Give, Handle, Pass, Refuse, Restart, SeeOver, Take, TakeNone}
pub use Rattle.ring_core.specs.declared.states.Colour.{Colour}
pub use Rattle.ring_core.specs.declared.states.Colour.TheVariants.{Black, White}
pub use Rattle.ring_core.specs.declared.states.Desk.TheVariants.{Asked, Empty, Full, Rest}
pub use Rattle.ring_core.specs.declared.states.RankState.{RankState}
pub use Rattle.ring_core.specs.declared.states.Token.{Token}
pub use Rattle.ring_core.specs.declared.states.Token.TheVariants.{At, Over}
pub use Rattle.sum_tree.proofs.StartLemmas.{never}
pub use Rattle.sum_tree.specs.Shown.{Agrees, AllFinished, IsLeaf, SumShown}
pub use Rattle.sum_tree.specs.Told.{SumTold, children_in, count_of, raised_by, told_raised, uncounted, word_of, words_below}
pub use Rattle.sum_tree.specs.Tree.{children}
pub use Rattle.sum_tree.specs.declared.ranks.RankSum.{RankSum}
pub use Rattle.sum_tree.specs.declared.sum_trees.SumSeat.{SumSeat}
pub use Rattle.sum_tree.specs.declared.sum_trees.SumTree.{SumTree}
pub use Rattle.post_board.proofs.CallLemmas.{in_list}
pub use Rattle.post_board.proofs.DeedLemmas.{size_after}
pub use Rattle.post_board.proofs.PlainDeeds.{some_same}
pub use Rattle.post_board.proofs.SeatSteps.{if_zero}
pub use Rattle.post_board.specs.BoardSeats.{unused}
pub use Rattle.post_board.specs.Calls.{AgreesIfTold, AllDone, AllEven, Even, Found, Halters, LookedFor, NoneAsks, NoneOnTheWay, RingTold, given, hearing}
pub use Rattle.post_board.specs.Calls.{serving}
pub use Rattle.post_board.specs.Deeds.{Deed, DeedsKeepSound, Late, LateKeepsSound, Legal, LegalLate, Stays, Tells, TellsLate, ask, blackened, conclude}
pub use Rattle.post_board.specs.Deeds.{event_of, give, halt, pass, refuse, restart, see_over, stop, take, take_none, told_after, told_late, withdraw}
pub use Rattle.post_board.specs.Fresh.{AllFresh, fresh_told}
pub use Rattle.post_board.specs.Shown.{Batches, Shown, Strings, is_served, mixed, more, token_of, victim_of, with_given, with_taken}
pub use Rattle.post_board.specs.Told.{Mail, Place, Sound, Told, asked, empty, full, is_full, is_stopped, no_place, place, put_place, vacant}
pub use Rattle.post_board.specs.declared.answers.Ring.{Ring}
pub use Rattle.post_board.specs.declared.answers.Ring.TheVariants.{Elsewhere, Here}
pub use Rattle.post_board.specs.declared.boards.Board.{Board}
pub use Rattle.post_board.specs.declared.boards.BoardSeat.{BoardSeat}
pub use Rattle.circle_run.specs.Apart.{AllRan, HostsAreBalanced, RankRan}
pub use Rattle.circle_run.specs.AsOften.{BalanceIsAsOften, handled_strings, pushed_strings, times}
pub use Rattle.circle_run.specs.Balance.{Balanced, Log, pushed}
pub use Rattle.circle_run.specs.Books.{counted, counted_one}
pub use Rattle.circle_run.specs.ByRank.{Played, PlayedApart, RankPlayed, nothing_done}
pub use Rattle.circle_run.specs.Choices.{Choice, Chooses, Chosen, Closes, IsRing, Standing, choice, halt_if, halts_after, has_done_all, heard_after, held_after}
pub use Rattle.circle_run.specs.Choices.{is_done, is_due, is_halt, is_to_halt, moved_on, standing, tells_first, to_ask, to_handle, to_look, to_move}
pub use Rattle.circle_run.specs.Fair.{AnswersFirst, ComesBefore, HandlesLast, IsFair, LetsOthers, MayFollow, MayIdle, MovesAnswerFirst, NobodyAsked, PlaysTurns}
pub use Rattle.circle_run.specs.Fair.{RoundsAreFair, TurnsArePlayed, actor, handles, is_asking, is_waiting, moves_in, moves_of_turns}
pub use Rattle.circle_run.specs.Hosts.{AllAlone, AllEnded, AllPlaced, AllReady, Alone, AreAll, IsAscending, KeptByEach, KeptInOrder, MayIdleIfTold, NoneLost}
pub use Rattle.circle_run.specs.Hosts.{NoneWrote, Placed, Ran, Same, Took, Turning, events_by, lone_side, stage_of}
pub use Rattle.circle_run.specs.Left.{all_left}
pub use Rattle.circle_run.specs.Moves.{AreAskers, Does, DoesDeed, Draws, Handles, IsHalted, IsLive, IsShared, MayHandle, MayNote, Move, NamesRank, NobodyAsks}
pub use Rattle.circle_run.specs.Moves.{Queues, Side, TellsAll, amounts, answer_of, askers, asks, batches_after, batches_after_all, did, events_of, handled}
pub use Rattle.circle_run.specs.Moves.{lots, noted, noted_of, served}
pub use Rattle.circle_run.specs.Private.Away.{AreDone, EndOf, HostRan, InPlace, IsHost, IsOne, MayRun, one_if}
pub use Rattle.circle_run.specs.Private.Books.{Writes}
pub use Rattle.circle_run.specs.Private.Outcomes.{AreNew, IsOutcome}
pub use Rattle.circle_run.specs.Private.Parting.{Ending, Starting}
pub use Rattle.circle_run.specs.Private.Pooled.{HasRoom, IsStarted, Pooled, pooled_numbers, started_numbers}
pub use Rattle.circle_run.specs.Private.Services.{Answered, AsksOf, Awaits, Fits, Gave, InOrder, InOrderIfTold, ServesOn, Serving, SoFar, Taken, amounts_of}
pub use Rattle.circle_run.specs.Private.Services.{askers_below, is_asker, unserved}
pub use Rattle.circle_run.specs.Private.Steps.{Acts, Came, Ends, Follows, Halts, HandledNewest, Heard, Served, Works, WoundUp, halts_by, tallied, turn_of}
pub use Rattle.circle_run.specs.Private.Steps.{with_service}
pub use Rattle.circle_run.specs.Progress.{Counts, Keeps, KeptAll, KeptOf, Progress, Rises, Thousands, newest}
pub use Rattle.circle_run.specs.Ranks.{DoesAll, Knows, ServesNone, Went}
pub use Rattle.circle_run.specs.Ready.{Bounded, IsNew, Ready, SumsReady, Turned}
pub use Rattle.circle_run.specs.Shares.{EventsTellLogs, GivenIsTakenOrMailed, LogsAreHandled, given_by, given_in, handled_at, handled_by, handled_in, moves_of}
pub use Rattle.circle_run.specs.Shares.{of_all, taken_by, taken_in}
pub use Rattle.circle_run.specs.Stages.{Plays, RankSide, Stage, begun, dealt_from, dealt_to, events_of_all, new_place, new_told, no_side, rank_side, side}
pub use Rattle.circle_run.specs.Stops.{MovesHalt}
pub use Rattle.circle_run.specs.Traced.{IsProgress, IsTraced, given_at, share_in, taken_at}
pub use Rattle.circle_run.specs.Turns.{AddsUp, IsAct, IsTurn, MayHalt, Waits, Worked}
pub use Rattle.circle_run.specs.Waiting.{AllIsHandled, MovesAreBalanced, NothingWaits, NothingWaitsAtEnd, all_logged, all_mailed, all_queued, batch_in}
pub use Rattle.circle_run.specs.Worlds.{MovesAreLegalRun, desk_of, state_of, world_of}
pub use Rattle.circle_run.specs.declared.books.Book.{Book}
pub use Rattle.circle_run.specs.declared.lots.Lot.{Lot}
pub use Rattle.circle_run.specs.declared.lots.Lot.TheVariants.{ByLot}
pub use Rattle.circle_run.specs.declared.outcomes.Finished.{Finished}
pub use Rattle.circle_run.specs.declared.outcomes.Share.{Share}
pub use Rattle.circle_run.specs.declared.pools.Pool.{Pool}
pub use Rattle.circle_run.specs.declared.ranks.Rank.{Rank}
pub use Rattle.circle_run.specs.declared.ranks.Turn.{Turn}
pub use Rattle.circle_run.specs.declared.settings.Options.{Options}
pub use Rattle.circle_run.specs.declared.settings.Split.{Split}
pub use Rattle.circle_run.specs.declared.settings.Split.TheVariants.{Equal, Random}
pub use Rattle.circle_run.specs.declared.started.Started.{Started}
pub use Rattle.circle_run.specs.declared.steps.Did.{Did}
pub use Rattle.circle_run.specs.declared.steps.Did.TheVariants.{Acted, Handled, Stopped, Waited}
