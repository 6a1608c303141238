-- The names from elsewhere that the proofs of this crate cite, passed on from one place. Declares nothing.
pub use Rattle.atomic_table.proofs.Lists.{at_longer, at_set, set_else, set_here}
pub use Rattle.std.proofs.Common.{Bool, IsTrue, List, None, [], add-zero, ap, append-nil, append_assoc, arith, cond, count_by, drop, eq-eqb, false, get_or}
pub use Rattle.std.proofs.Common.{get_or-set_other, get_or-set_same, inl, inr, length, length-append, length-set, map, mul-suc, mul-zero, nat_lt, ne_eqb, not}
pub use Rattle.std.proofs.Common.{refl, set, subst, suc, sum_by, sym, take, true, zero, zero-add, ℕ, ⊎_elim, ◌%◌, ◌&&◌, ◌*◌, ◌++◌, ◌+◌, ◌-◌, ◌/◌, ◌<◌, ◌==◌}
pub use Rattle.std.proofs.Common.{◌^◌, ◌||◌, ◌∙◌, ◌∷◌, ◌≡◌, ◌≢◌, ◌≤◌, ◌⊎◌}
pub use Rattle.std.proofs.Math.Nat.{div-add-mod, mod-eq_of_lt, mod-lt, mul-add-mod_self_left}
pub use Rattle.std.proofs.Math.Seq.{get_or-append_seam}
pub use Rattle.std.proofs.lemmas.Bool.{or_parts}
pub use Rattle.std.proofs.lemmas.Bool.Decides.{nat_tests}
pub use Rattle.std.proofs.lemmas.Fmt.{decimal_digit, decimal_nonempty, decimal_step, length-decimal-le}
pub use Rattle.std.proofs.lemmas.List.{drop-set, get_or_append_left, get_or_default, get_or_push, take_all, take_more}
pub use Rattle.std.proofs.lemmas.List.Elements.{All-append, All-cons, All-nil, Contains-append_left, Contains-get_or, Contains-push}
pub use Rattle.std.proofs.lemmas.List.FromFn.{length-map-range_with_len, map-range_with_len_more}
pub use Rattle.std.proofs.lemmas.List.Sorted.{Contains-permutation, IsPermutation-sym}
pub use Rattle.std.proofs.lemmas.List.Sums.{sum_by-cons, sum_by-set, sum_by_more, sum_by_push}
pub use Rattle.std.specs.Fmt.{decimal}
pub use Rattle.std.specs.List.{All, Contains, range_with_len}
pub use Rattle.std.specs.List.Sorted.{IsPermutation}
pub use lib.ListN.{get_elem?}
pub use mathlib.Core.Logic.{dite}
pub use mathlib.Core.Option.{some, some-injective, some-ne-none}
pub use mir.Val.{bool_byte}
pub use native.Mathlib.Decide.{dec_le, ℕ_discrete}
pub use Rattle.ring_core.specs.Invariant.{Quiet, TokenInvariant}
pub use Rattle.ring_core.specs.Picture.{Active, Becomes, BlackRank, Happens, IsQuiet, IsStepOfPicture, Picture, PictureInvariant, RankPicture, WorldInvariant}
pub use Rattle.ring_core.specs.Picture.{asked_of, at_rest, filled_by, gave, is_filled, mailbox_of, picture_of, pictured, put, refused_by}
pub use Rattle.ring_core.specs.Run.{HoldsSome, IsRun, NoEmptyBatch, after_all, is_handle, pushed}
pub use Rattle.ring_core.specs.Step.{after, after_giving, asks, differs, holds, is_at, is_busy, is_refused_by, is_rest, is_token_black, ranks_after, refusal}
pub use Rattle.ring_core.specs.Step.{refused, token_after}
pub use Rattle.ring_core.specs.World.{Seen, darker, dealt, fresh, held, is_black, is_over, on_way_in, queued_in, rank_of, started}
pub use Rattle.ring_core.specs.declared.events.Event.{Event}
pub use Rattle.ring_core.specs.declared.events.Event.TheVariants.{Ask, Conclude, Give, Handle, Pass, Refuse, Restart, SeeOver, Take, TakeNone}
pub use Rattle.ring_core.specs.declared.states.Colour.{Colour}
pub use Rattle.ring_core.specs.declared.states.Colour.TheVariants.{Black, White}
pub use Rattle.ring_core.specs.declared.states.Desk.{Desk}
pub use Rattle.ring_core.specs.declared.states.Desk.TheVariants.{Asked, Empty, Full, Rest}
pub use Rattle.ring_core.specs.declared.states.RankState.{RankState}
pub use Rattle.ring_core.specs.declared.states.Token.{Token}
pub use Rattle.ring_core.specs.declared.states.Token.TheVariants.{At, Over}
