-- The names from elsewhere that the proofs of this crate cite, passed on from one place. Declares nothing.
pub use Rattle.std.proofs.Common.{Bool, Err, List, Ok, Result, [], ap, append_assoc, ap₂, arith, cond, drop, false, get_or, inl, inr, length, map, refl, rules}
pub use Rattle.std.proofs.Common.{subst, suc, sym, take, true, zero, ℕ, ◌%◌, ◌*◌, ◌++◌, ◌+◌, ◌-◌, ◌/◌, ◌<◌, ◌^◌, ◌∙◌, ◌∷◌, ◌≡◌, ◌≤◌}
pub use Rattle.std.proofs.Math.Seq.{drop-append_seam, take-append-add, take-append_seam}
pub use Rattle.std.proofs.lemmas.Bool.{and_parts, cases_lt, false≢true}
pub use Rattle.std.proofs.lemmas.Bool.Decides.{nat_tests}
pub use Rattle.std.proofs.lemmas.Grind.{flat_map-append}
pub use Rattle.std.proofs.lemmas.List.{append-nil, drop-drop, drop_more, length-append, length-drop, length-map, length-take-le, map-append, take-append-drop}
pub use Rattle.std.proofs.lemmas.List.{take-append-le, take_all, take_more}
pub use Rattle.std.proofs.lemmas.List.Elements.{All-cons, All-from_get_or, All-nil}
pub use Rattle.std.proofs.lemmas.List.Folds.{list_all-append, list_all_at}
pub use Rattle.std.proofs.lemmas.List.Sums.{common_prefix_len-le, sum_by-append, sum_by-cons, sum_by-take-drop, sum_by-take-le}
pub use Rattle.std.proofs.lemmas.Map.Views.{exact_unsigned_eq}
pub use Rattle.std.proofs.lemmas.Option.{get_or_from_slice_get, slice_get-get_or, slice_get-map, slice_get_past, slice_get_within, unwrap_or-slice_get}
pub use Rattle.std.proofs.lemmas.Str.{IsUtf8-from_is_utf8, is_utf8-from_IsUtf8}
pub use Rattle.std.specs.Cmp.Lexicographic.{pointwise}
pub use Rattle.std.specs.List.{All, common_prefix_len, flat_map, list_all, position, position_or_len, sum_by}
pub use Rattle.std.specs.Option.{option_map, unwrap_or}
pub use Rattle.std.specs.Ordering.{is_lt}
pub use Rattle.std.specs.Prelude.{None, OnErr, OnOk, Option, Some, if◌then◌else◌, is_none, is_some, nat_eq, nat_lt, not, slice_get, ◌&&◌, ◌==◌, ◌||◌}
pub use Rattle.std.specs.Str.{IsUtf8, is_utf8}
pub use Rattle.std.specs.Vec.{vec_capacity, vec_len}
pub use Rattle.path_text.proofs.Told.{some_length}
pub use Rattle.path_text.proofs.Words.{behind, rest_of}
pub use Rattle.path_text.specs.Order.{has_zero, path_cmp}
pub use Rattle.path_text.specs.Path.{refusal}
pub use Rattle.path_text.specs.declared.errors.OutOfMemory.{OutOfMemory}
pub use Rattle.outside.specs.Links.{link_refusal}
pub use Rattle.outside.specs.declared.trees.Kind.{Kind}
pub use Rattle.outside.specs.declared.trees.Stat.{Stat}
pub use Rattle.entry_pages.specs.Entries.{bytes_by, is_of, mark_notes, note_count, size_by, summary_of}
pub use Rattle.entry_pages.specs.Pack.{Head, RisesAt, entry_by, head_by, head_from, heads_from, last_path, page_of, path_by, path_len, place_of, rest_by}
pub use Rattle.entry_pages.specs.Pack.{rests_from, same_after, shared_by, starts_by, unpacked}
pub use Rattle.entry_pages.specs.Private.Kept.{AreStarts, IsAt, IsBefore, IsKept, IsSeek, is_path, rest_sum}
pub use Rattle.entry_pages.specs.Private.Slim.{IsLead, IsSlim, first_odd, head_told, heads_of, is_odd, is_text, is_timed, kind_shown, odd_by, odd_count}
pub use Rattle.entry_pages.specs.Private.Slim.{odds_after, odds_by, seconds_or, shown_by, slim_by, stat_shown, target_by, target_bytes, text_by, text_len}
pub use Rattle.entry_pages.specs.Private.Slim.{time_or, with_text}
pub use Rattle.entry_pages.specs.declared.entries.Entry.{Entry}
pub use Rattle.entry_pages.specs.declared.entries.Mark.TheVariants.{Fine}
pub use Rattle.entry_pages.specs.declared.slims.Odd.{Odd}
pub use Rattle.entry_pages.specs.declared.slims.Shown.TheVariants.{Nothing}
pub use Rattle.entry_pages.specs.declared.slims.Slim.{Slim}
pub use Rattle.entry_pages.specs.declared.summaries.Summary.{Summary}
