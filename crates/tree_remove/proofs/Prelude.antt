-- The names from elsewhere that the proofs of this crate cite, passed on from one place. Declares nothing.
pub use Rattle.std.proofs.Common.{Bool, IfOk, IfSome, List, None, Option, Some, [], ap, append-nil, append_assoc, arith, cond, drop, false, get_or, inl, inr}
pub use Rattle.std.proofs.Common.{is_none, is_some, length, length-append, length-drop, map, min, nat_eq, nat_lt, not, refl, rules, slice_get, subst, suc, sym}
pub use Rattle.std.proofs.Common.{take, true, zero, ℕ, ⊎_elim, ◌&&◌, ◌++◌, ◌+◌, ◌-◌, ◌<◌, ◌^◌, ◌||◌, ◌∙◌, ◌∷◌, ◌≡◌, ◌≢◌, ◌≤◌, ◌⊎◌}
pub use Rattle.std.proofs.lemmas.Bool.{false≢true, or_left, or_right}
pub use Rattle.std.proofs.lemmas.Bool.Decides.{nat_tests}
pub use Rattle.std.proofs.lemmas.List.{get_or-map, length-map, nil_from_length}
pub use Rattle.std.proofs.lemmas.List.Elements.{All-from_recursion, recursion_from_All}
pub use Rattle.std.proofs.lemmas.List.Sums.{sum-map, sum_by-cons}
pub use Rattle.std.proofs.lemmas.Option.{slice_get-get_or}
pub use Rattle.std.proofs.lemmas.Slice.Zip.{firsts-zip, get_or-zip, length-zip}
pub use Rattle.std.specs.Cmp.Lexicographic.{bytes_decides, pointwise}
pub use Rattle.std.specs.FinMap.{contains_key-keys, get, get-remove, keys, remove, same_map}
pub use Rattle.std.specs.List.{All, AllByRecursion, cons_option, count_by, filter_map, list_any, starts_with, zip}
pub use Rattle.std.specs.Option.{option_map}
pub use Rattle.std.specs.Ordering.{eq_by_cmp}
pub use Rattle.std.specs.Prelude.{Err, IsTrue, Ok, Result, sum, ◌==◌}
pub use Rattle.std.specs.Vec.Iter.{into_iter_items, into_iter_len}
pub use Rattle.std.specs.declared.cmp.Ordering.TheVariants.{Less}
pub use Rattle.path_text.proofs.Under.{irreflexive}
pub use Rattle.path_text.specs.Order.{front, is_under, is_within, path_cmp}
pub use Rattle.path_text.specs.Path.{parent_of, refusal}
pub use Rattle.path_text.specs.Total.{path_cmp_same, path_cmp_ties, path_cmp_total}
pub use Rattle.path_text.specs.declared.errors.OutOfMemory.{OutOfMemory}
pub use Rattle.outside.proofs.Saved.{at_itself}
pub use Rattle.outside.specs.Asked.{Writes}
pub use Rattle.outside.specs.Count.{RoseBy}
pub use Rattle.outside.specs.Parts.{IsTreeIn, UnderDirectories}
pub use Rattle.outside.specs.Tree.{Body, Files, IsTree, Node, dir, far_at, far_of, file, is_dir, is_dir_body, is_root, kind_of, link, name_below, names_in}
pub use Rattle.outside.specs.Tree.{other}
pub use Rattle.outside.specs.Writes.{Answers, SameBut, may_empty, nothing_lent, remove_dir_refusal, remove_file_refusal}
pub use Rattle.outside.specs.declared.plots.WriteError.{WriteError}
pub use Rattle.outside.specs.declared.trees.Stat.{Stat}
pub use Rattle.entry_pages.specs.Entries.{is_kind, is_of}
pub use Rattle.entry_pages.specs.declared.entries.Entry.{Entry}
pub use Rattle.flat_list.specs.Spelling.{paths}
pub use Rattle.level_work.proofs.Frames.{get_at, get_here}
pub use Rattle.level_work.proofs.Stages.{get_with}
pub use Rattle.level_work.proofs.Unfailed.{unfailed}
pub use Rattle.level_work.proofs.Working.{same_some}
pub use Rattle.level_work.specs.Acts.{IsDone, at_and_under}
pub use Rattle.level_work.specs.Counts.{BlamedAll, NoneAtEnd, is_done, is_failed}
pub use Rattle.level_work.specs.Levels.{Acted, AreItems, ParentsFail, SameButItems, StandIn, found, is_item, left}
pub use Rattle.level_work.specs.declared.items.Fate.{Fate}
pub use Rattle.level_work.specs.declared.items.Item.{Item}
pub use Rattle.tree_remove.specs.Laws.{AreWhole, WholeChoicesGo}
pub use Rattle.tree_remove.specs.PrivateDeeds.{Removal, item_of, items_of, removal_refusal, told_fate}
pub use Rattle.tree_remove.specs.Removing.{AreChosen, AreThere, HasUnder, HaveCauses, NothingUnder, Removed, SameButChosen, ShowsFate, WasChosen, fate_told}
pub use Rattle.tree_remove.specs.Removing.{removal_of}
