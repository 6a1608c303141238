-- The names from elsewhere that the proofs of this crate cite, passed on from one place. Declares nothing.
pub use Rattle.std.proofs.Common.{Err, IfOk, List, None, Ok, Option, Result, Some, [], ap, arith, eqb, refl, subst, sym, true, ℕ, ◌<◌, ◌^◌, ◌∙◌, ◌∷◌, ◌≡◌}
pub use Rattle.std.proofs.lemmas.Bool.{false≢true}
pub use Rattle.std.proofs.lemmas.Bool.Decides.{nat_tests}
pub use Rattle.std.proofs.lemmas.List.{nil_from_length}
pub use Rattle.std.proofs.lemmas.List.Elements.{All-cons, All-contains, All-contains_itself, All-head, All-nil, All-tail}
pub use Rattle.std.proofs.lemmas.List.Filters.{All-dedup, dedup_is}
pub use Rattle.std.proofs.lemmas.List.Kept.{Contains-dedup, IsStrictlySortedBy-dedup}
pub use Rattle.std.proofs.lemmas.List.Sorted.{All-permutation, IsPermutation-sym}
pub use Rattle.std.proofs.lemmas.List.Sums.{get_or-le-sum_by}
pub use Rattle.std.specs.Cmp.Lexicographic.{bytes_decides, nat_list_eq_equiv, pointwise}
pub use Rattle.std.specs.FinMap.{get}
pub use Rattle.std.specs.List.{All, Contains, dedup, sum_by}
pub use Rattle.std.specs.List.Sorted.{IsPermutation, IsSorted, IsStrictlySortedBy}
pub use Rattle.std.specs.Option.{is_some, option_map}
pub use Rattle.std.specs.Prelude.{IfSome, MatchOption, OnErr, OnOk}
pub use Rattle.path_text.specs.Order.{path_cmp}
pub use Rattle.path_text.specs.Total.{path_cmp_ties, path_cmp_total}
pub use Rattle.outside.specs.Count.{RoseBy, StoodStill, capped}
pub use Rattle.outside.specs.Tree.{Files, Node, stat_of}
pub use Rattle.outside.specs.declared.failures.Failed.{Failed}
pub use Rattle.outside.specs.declared.trees.Stat.{Stat}
pub use Rattle.path_looks.specs.Answers.{by_stat}
pub use Rattle.path_looks.specs.Looks.{AreLooks, IsSeen, LooksWithoutFaultsAreTold, fault_of, faults_in, is_at, paths_of}
pub use Rattle.path_looks.specs.declared.looks.Look.{Look}
pub use Rattle.path_looks.specs.declared.looks.Seen.{Seen}
