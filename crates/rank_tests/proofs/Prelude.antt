-- The names from elsewhere that the proofs of this crate cite, passed on from one place. Declares nothing.
pub use Rattle.std.proofs.Common.{All, IfSome, IsSome, List, Option, Some, [], ap, arith, false, get_or, inl, length, subst, suc, sym, true, zero, ℕ, ◌++◌, ◌-◌}
pub use Rattle.std.proofs.Common.{◌<◌, ◌∙◌, ◌∷◌, ◌≡◌, ◌≤◌, ◌⊎◌}
pub use Rattle.std.proofs.lemmas.List.Sorted.{IsPermutation-append_comm}
pub use Rattle.sum_tree.specs.Plain.{fresh}
pub use Rattle.sum_tree.specs.Shown.{AllFinished, SumShown}
pub use Rattle.post_board.specs.BoardSeats.{IsSeat, shown_by}
pub use Rattle.post_board.specs.Calls.{AllDone}
pub use Rattle.post_board.specs.Fresh.{AllFresh}
pub use Rattle.post_board.specs.Plain.{Seats}
pub use Rattle.post_board.specs.Shown.{Batches, Live, Shown, is_open, is_served}
pub use Rattle.circle_run.proofs.New.{ready_at_first}
pub use Rattle.circle_run.specs.Hosts.{Placed}
pub use Rattle.circle_run.specs.declared.ranks.Rank.{Rank}
