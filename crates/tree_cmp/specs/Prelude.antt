-- The names that contracts over sides and readers cite, passed on from one place. Declares nothing.
pub use Rattle.flat_list.specs.Prelude.{RoseBy}
pub use Rattle.tree_cmp.specs.Readers.{first_told, Alike, HaveCauses, StatsTold, NoneFell, RoseTogether}
pub use Rattle.tree_cmp.specs.Rows.{IsComparison}
pub use Rattle.tree_cmp.specs.Sides.{side, IsSide}
