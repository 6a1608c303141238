-- The names from elsewhere that the proofs of this crate cite, passed on from one place. Declares nothing.
pub use Rattle.atomic_table.proofs.Lists.{exchanged}
pub use Rattle.atomic_table.specs.Seated.{TableId}
pub use Rattle.atomic_table.specs.Table.{Act, Allows, Joins, Splits, Valid, carried_after, gives, keeps, opening, put_back, rest, step, stepped, takes, turned}
pub use Rattle.std.proofs.Common.{Bool, List, None, Option, Some, [], ap, append_assoc, arith, bit_or, bit_xor, cond, deque_capacity, deque_len, drop, eq-eqb}
pub use Rattle.std.proofs.Common.{eqb, false, get_or, get_or-set_other, get_or-set_same, inl, inr, length, length-append, length-set, map, max, nat_lt, ne_eqb}
pub use Rattle.std.proofs.Common.{refl, replicate, rules, set, subst, suc, sum_by, sym, true, zero, ℕ, ⊎_elim, ◌%◌, ◌*◌, ◌++◌, ◌+◌, ◌-◌, ◌/◌, ◌<◌, ◌==◌, ◌^◌}
pub use Rattle.std.proofs.Common.{◌∙◌, ◌∷◌, ◌≡◌, ◌≢◌, ◌≤◌, ◌⊎◌}
pub use Rattle.std.proofs.Math.ListN.{get_or-eq_default}
pub use Rattle.std.proofs.Math.Seq.{get_or-append_seam, map-set_same}
pub use Rattle.std.proofs.lemmas.Bool.{eqb-true, false_from_ne_true, lt-ltb, ltb-true}
pub use Rattle.std.proofs.lemmas.Bool.Decides.{nat_tests}
pub use Rattle.std.proofs.lemmas.Grind.{common_steps}
pub use Rattle.std.proofs.lemmas.List.{append-nil, ext_get_or, get_or-map, get_or-replicate, get_or_append_left, get_or_default, get_or_past, get_or_read}
pub use Rattle.std.proofs.lemmas.List.{length-map, length-replicate, map-append, map-set, nil_from_length, set-set}
pub use Rattle.std.proofs.lemmas.List.Elements.{All-append, All-cons, All-nil, Contains-append_left, Contains-get_or, Contains-push}
pub use Rattle.std.proofs.lemmas.List.FromFn.{get_or-map-range_with_len, length-map-range_with_len}
pub use Rattle.std.proofs.lemmas.List.Sorted.{Contains-permutation, length_permutation}
pub use Rattle.std.proofs.lemmas.List.Sums.{sum_by-cons, sum_by-set}
pub use Rattle.std.proofs.lemmas.Nat.Bits.{bit_at-lt, bit_at-pow_other, bit_at-pow_same, bit_at-zero, bit_at_or, bit_at_xor}
pub use Rattle.std.specs.Int.{bit_at}
pub use Rattle.std.specs.List.{All, Contains, range_with_len}
pub use Rattle.std.specs.Vec.{with_item}
pub use lib.ListN.{get_elem?}
pub use lib.Seq.{set-get_or}
pub use mathlib.Core.Logic.{dite}
pub use mathlib.Core.Option.{none, some}
pub use native.Mathlib.Decide.{dec_le, dec_lt, ℕ_discrete}
pub use prog.Atomic.{either}
pub use Rattle.ring_core.proofs.PictureLemmas.{event_keeps_invariant, put_all, put_elsewhere, put_here, put_same}
pub use Rattle.ring_core.proofs.SeatLemmas.{Face, Seats, first_seat, seat_deals, seat_joins, seat_knows}
pub use Rattle.ring_core.proofs.TogetherLemmas.{Brings, Gathered, all_know, alone, came, comes_first, comes_next, each_pushed, first_says, numbered, spare}
pub use Rattle.ring_core.specs.Picture.{Becomes, Happens, PictureInvariant, RankPicture, filled_by, is_filled, put}
pub use Rattle.ring_core.specs.Step.{is_at}
pub use Rattle.ring_core.specs.World.{darker, is_over}
pub use Rattle.ring_core.specs.declared.states.Colour.{Colour}
pub use Rattle.ring_core.specs.declared.states.Colour.TheVariants.{Black, White}
pub use Rattle.ring_core.specs.declared.states.Token.{Token}
pub use Rattle.ring_core.specs.declared.states.Token.TheVariants.{At, Over}
pub use Rattle.post_board.specs.BoardMoments.{NothingLeft, told_at}
pub use Rattle.post_board.specs.BoardRule.{Away, HaltFacts, MailboxFacts, Moment, OpenFits, OwnFits, Parcel, RingFacts, Rule, SlotFits, TableState, asked_of}
pub use Rattle.post_board.specs.BoardRule.{both, dealing, dealt_out, fresh, given, halt_in, mail_of, on_way, opened, serves, sheet, signs_in, slots_in, spent}
pub use Rattle.post_board.specs.BoardRule.{stops_in, taken, token_in}
pub use Rattle.post_board.specs.BoardSeats.{IsUnread, first_ended, one_if, own_by, shown_known, unused}
pub use Rattle.post_board.specs.BoardSteps.{AskTells, ConcludeTells, FetchTells, GiveTells, Going, LastLookTells, LookTells, PassTells, RefuseTells}
pub use Rattle.post_board.specs.BoardSteps.{RestEmptyTells, RestTells, RestartTells, RingTells, ScanTells, SeatState, Squares, TakeUpTells, after_ask}
pub use Rattle.post_board.specs.BoardSteps.{after_conclude, after_fetch, after_look, after_pass, after_post, after_refusing, after_rest, after_restart}
pub use Rattle.post_board.specs.BoardSteps.{after_taking, front, heard_at, knowing, knows, learn, noted}
pub use Rattle.post_board.specs.BoardTurns.{HaltTurns, IsNone, MailboxTurns, RingTurns}
pub use Rattle.post_board.specs.BoardWork.{Finds, Fronted, SameFields}
pub use Rattle.post_board.specs.Calls.{AllDone, AllEven, Halters, NoneAsks, NoneOnTheWay}
pub use Rattle.post_board.specs.Deeds.{Acts, Deed, Late, LateKeepsSound, Legal, LegalLate, ask, conclude, event_of, give, halt, pass, refuse, restart, see_over}
pub use Rattle.post_board.specs.Deeds.{stop, take, take_none, told_after, told_late, withdraw}
pub use Rattle.post_board.specs.Fresh.{fresh_place, fresh_told}
pub use Rattle.post_board.specs.LateSteps.{LoadHaltTells, LoadStopsTells, SetHaltTells, StopTells, WithdrawTells, after_halt, after_stop, after_stops}
pub use Rattle.post_board.specs.LateSteps.{halt_seen, stop_seen}
pub use Rattle.post_board.specs.Plain.{Fits, Gone, HaltFits, HereFits, IsSeat, Match, Noted, fresh_rank, is_some, no_rank, place_of, plain, shown_by}
pub use Rattle.post_board.specs.Plain.{token_colour, told_by, told_of, wants, worded}
pub use Rattle.post_board.specs.Reached.{Reached, begun, did}
pub use Rattle.post_board.specs.Readings.{Adds, AnswerSteps, Four, Is, NoneAsked, One, Read, Step, Steps, Three, TokenSteps, Two, others_below}
pub use Rattle.post_board.specs.Shown.{Shown, Strings, is_here, mixed, token_of, victim_of}
pub use Rattle.post_board.specs.Told.{Mail, Place, Sane, Sound, Told, asked, empty, is_full, mailbox, no_place, picture, pictured, place, put_place, vacant}
pub use Rattle.post_board.specs.Words.{Sign, asking, emptied, fetching, full, has_bit, resting, serving, sign, sign_by, token_read, word_of, word_of_token}
pub use Rattle.post_board.specs.declared.answers.Answer.TheVariants.{Nothing}
pub use Rattle.post_board.specs.declared.answers.Reading.{Reading}
pub use Rattle.post_board.specs.declared.board_answers.Reply.{Reply}
pub use Rattle.post_board.specs.declared.board_answers.Reply.TheVariants.{Full}
pub use Rattle.post_board.specs.declared.board_views.Known.{Known}
pub use Rattle.post_board.specs.declared.board_views.OwnMailbox.{OwnMailbox}
pub use Rattle.post_board.specs.declared.board_views.OwnMailbox.TheVariants.{Emptied, Filled, Getting, Left, Open, Resting}
pub use Rattle.post_board.specs.declared.board_views.View.{View}
pub use Rattle.post_board.specs.declared.boards.Board.{Board}
pub use Rattle.post_board.specs.declared.boards.BoardSeat.{BoardSeat}
pub use Rattle.post_board.specs.declared.plain_boards.PlainBoard.{PlainBoard}
pub use Rattle.post_board.specs.declared.plain_ranks.PlainMailbox.{PlainMailbox}
pub use Rattle.post_board.specs.declared.plain_ranks.PlainMailbox.TheVariants.{Holds, Refused, Rest, Served, Wants}
pub use Rattle.post_board.specs.declared.plain_ranks.PlainRank.{PlainRank}
pub use Rattle.post_board.specs.declared.plain_seats.PlainSeat.{PlainSeat}
