-- The names from elsewhere that the proofs of this crate cite, passed on from one place. Declares nothing.
pub use Rattle.std.proofs.Common.{IsTrue, List, None, Some, [], ap, arith, drop, is_some, map, refl, subst, sym, take, true, ℕ, ◌++◌}
pub use Rattle.std.proofs.Common.{◌+◌, ◌∙◌, ◌∷◌, ◌≡◌}
pub use Rattle.std.proofs.lemmas.List.{take_all}
pub use Rattle.std.proofs.lemmas.List.Elements.{All-cons}
pub use Rattle.std.proofs.lemmas.List.Sums.{sum_by_more}
pub use Rattle.std.specs.List.{list_any, sum_by}
pub use Rattle.std.specs.Option.{option_map}
pub use Rattle.std.specs.Prelude.{All, Err, Ok, OnErr, Option, Result}
pub use Rattle.outside.proofs.Cuts.{first_found, is_first, rest_there}
pub use Rattle.outside.specs.Count.{capped}
pub use Rattle.outside.specs.Lease.{same_tops}
pub use Rattle.outside.specs.Spans.{Piece, ascends_above, cuts_at, pieces, pieces_from, zeros_of}
pub use Rattle.outside.specs.Writes.{Cut}
pub use Rattle.real_disk.specs.Spans.{Seen, blank, count_of, piece_of, untold}
