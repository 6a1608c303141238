-- The names from elsewhere that the proofs of this crate cite, passed on from one place. Declares nothing.
pub use Rattle.std.proofs.Common.{All, Global, List, Option, Vec, [], ap, append-nil, append_assoc, arith, drop, false, get_or, length, length-append, map, min}
pub use Rattle.std.proofs.Common.{refl, set, subst, suc, sym, take, vec_len, zero, ℕ, ◌++◌, ◌+◌, ◌-◌, ◌<◌, ◌^◌, ◌||◌, ◌∙◌, ◌∷◌, ◌≡◌, ◌≤◌}
pub use Rattle.std.proofs.lemmas.Bool.{leb-false, or_parts}
pub use Rattle.std.proofs.lemmas.Bool.Decides.{nat_tests}
pub use Rattle.std.proofs.lemmas.Grind.{reverse_onto}
pub use Rattle.std.proofs.lemmas.List.{length-drop, length-map, map-append, nil_from_length, reverse-append, take_all}
pub use Rattle.std.proofs.lemmas.List.Elements.{All-from_recursion, All-push, recursion_from_All}
pub use Rattle.std.proofs.lemmas.List.Folds.{list_any-append}
pub use Rattle.std.proofs.lemmas.List.Sums.{sum-map, sum_by-append, sum_by-cons}
pub use Rattle.std.specs.List.{AllByRecursion, sum_by}
pub use Rattle.std.specs.Prelude.{nat_le, reverse, sum}
pub use Rattle.std.specs.Vec.{vec_capacity}
pub use Rattle.outside.specs.Count.{RoseBy}
pub use Rattle.outside.specs.Tree.{Files}
pub use Rattle.shared_reads.specs.Counts.{KeepUp, KeepsUp, NoneFell, RoseTogether, is_at_end}
pub use Rattle.shared_reads.specs.Desks.{HasRoom}
pub use Rattle.shared_reads.specs.Kept.{AreCut, Holds, IsCut, IsKept, IsTold, Stands, all_faults, held}
pub use Rattle.shared_reads.specs.Private.Sharing.{IsIdle, IsWorked}
pub use Rattle.shared_reads.specs.declared.keeping.Found.{Found}
pub use Rattle.shared_reads.specs.declared.keeping.Kept.{Kept}
pub use Rattle.shared_reads.specs.declared.sharing.Worker.{Worker}
