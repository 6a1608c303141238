-- The names from elsewhere that the proofs of this crate cite, passed on from one place. Declares nothing.
pub use Rattle.std.proofs.Common.{List, Some, [], arith, length, refl, rules, subst, suc, sym, true, zero, ℕ, ◌++◌}
pub use Rattle.std.proofs.Common.{◌+◌, ◌∙◌, ◌∷◌, ◌≡◌}
pub use Rattle.std.specs.Cmp.{IsTotalOrder, nat_cmp_total}
pub use Rattle.std.specs.Cmp.Lexicographic.{lists_total, slice_cmp}
pub use Rattle.std.specs.List.{AllByRecursion}
pub use Rattle.std.specs.Ordering.{is_lt, nat_cmp}
pub use Rattle.std.specs.Prelude.{slice_get}
pub use Rattle.std.specs.declared.cmp.Ordering.{Ordering}
pub use Rattle.std.specs.declared.cmp.Ordering.TheVariants.{Equal, Greater, Less}
pub use Rattle.outside.specs.Tree.{AreNames}
