-- The names from elsewhere that the proofs of this crate cite, passed on from one place. Declares nothing.
pub use Rattle.std.proofs.Common.{All, List, None, Some, [], ap, arith, false, get_or, length, length-append, map, refl, subst, sym, true, ℕ, ◌++◌, ◌+◌, ◌-◌}
pub use Rattle.std.proofs.Common.{◌<◌, ◌∙◌, ◌∷◌, ◌≡◌}
pub use Rattle.std.proofs.lemmas.List.{get_or_append_left, get_or_push}
pub use Rattle.std.proofs.lemmas.List.Elements.{All-push}
pub use Rattle.sum_tree.specs.Shown.{SumShown}
pub use Rattle.post_board.specs.BoardSeats.{IsSeat, shown_by, unused}
pub use Rattle.post_board.specs.Fresh.{fresh}
pub use Rattle.post_board.specs.Shown.{Live, Shown}
pub use Rattle.post_board.specs.declared.boards.BoardSeat.{BoardSeat}
pub use Rattle.circle_run.proofs.New.{ready_at_first}
pub use Rattle.circle_run.specs.Hosts.{Placed}
pub use Rattle.circle_run.specs.declared.ranks.Rank.{Rank}
pub use Rattle.rank_threads.specs.Fits.{Fits}
