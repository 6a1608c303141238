-- The names from elsewhere that the proofs of this crate cite, passed on from one place. Declares nothing.
pub use Rattle.std.proofs.Common.{Bool, List, Some, [], ap, false, length, not, refl, slice_get, suc, sym, true, zero, ℕ, ◌&&◌, ◌<◌, ◌||◌, ◌∙◌, ◌∷◌, ◌≡◌}
pub use Rattle.std.proofs.lemmas.Bool.{false≢true}
pub use Rattle.std.proofs.lemmas.Option.{get_or_from_slice_get}
pub use Rattle.std.specs.Cmp.Lexicographic.{nat_list_eq_equiv, pointwise}
pub use Rattle.std.specs.FinMap.{get}
pub use Rattle.std.specs.List.{list_any}
pub use Rattle.std.specs.Prelude.{IsTrue, nat_eq}
pub use Rattle.path_text.specs.Path.{level_of, parent_of}
pub use Rattle.outside.specs.Tree.{is_dir}
pub use Rattle.outside.specs.Writes.{all_but, is_open}
pub use Rattle.base_tests.specs.Differ.{all_differ}
