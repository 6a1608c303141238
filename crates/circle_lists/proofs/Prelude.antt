-- The names from elsewhere that the proofs of this crate cite, passed on from one place. Declares nothing.
pub use Rattle.std.proofs.Common.{Bool, Bor, Global, List, None, Ok, Option, Some, Vec, [], ap, append-nil, append_assoc, arith, cond, eqb, false, get_or, inl}
pub use Rattle.std.proofs.Common.{inr, length, length-append, map, not, refl, rules, subst, suc, sym, take, true, zero, ℕ, ◌%◌, ◌&&◌, ◌++◌, ◌+◌, ◌-◌, ◌<◌, ◌^◌}
pub use Rattle.std.proofs.Common.{◌||◌, ◌∙◌, ◌∷◌, ◌≡◌, ◌≢◌, ◌≤◌}
pub use Rattle.std.proofs.Math.Seq.{get_or-append_seam}
pub use Rattle.std.proofs.lemmas.Bool.{cases_lt, false≢true}
pub use Rattle.std.proofs.lemmas.Bool.Decides.{nat_tests}
pub use Rattle.std.proofs.lemmas.Fmt.{decimal_by_steps, decimal_injective}
pub use Rattle.std.proofs.lemmas.List.{append_cancel_left, append_cancel_right, ext_get_or, get_or-map, get_or_append_left, length-map, map-append}
pub use Rattle.std.proofs.lemmas.List.{nil_from_length, take-take}
pub use Rattle.std.proofs.lemmas.List.Folds.{list_any-append}
pub use Rattle.std.proofs.lemmas.Result.{IfOk-weaker, MatchResult-weaker}
pub use Rattle.std.specs.Bool.{IsTrue}
pub use Rattle.std.specs.Cmp.Lexicographic.{bytes_decides, pointwise}
pub use Rattle.std.specs.FinMap.{get, insert}
pub use Rattle.std.specs.Fmt.{decimal}
pub use Rattle.std.specs.List.{AllByRecursion, flat_map, list_any}
pub use Rattle.std.specs.Prelude.{IfNone, IfSome, codes, is_none, is_some, nat_eq, ◌==◌}
pub use Rattle.std.specs.Str.{IsUtf8}
pub use Rattle.path_text.proofs.Joined.{first_slash, joined_length}
pub use Rattle.path_text.proofs.Parents.{parent_joined}
pub use Rattle.path_text.specs.Escape.{ReadingUndoesWriting, escape, reading}
pub use Rattle.path_text.specs.Path.{is_name, is_slash, joined, parent_of, refusal}
pub use Rattle.path_text.specs.declared.paths.Path.{Path}
pub use Rattle.outside.proofs.Saved.{put_one}
pub use Rattle.outside.specs.Count.{RoseBy}
pub use Rattle.outside.specs.Tree.{Files, is_dir, is_file, is_root}
pub use Rattle.outside.specs.Whole.{HoldsFile, can_save}
pub use Rattle.outside.specs.Writes.{SameBut, new_file, nothing_lent}
pub use Rattle.whole_lines.proofs.Ends.{end_free}
pub use Rattle.whole_lines.proofs.Escapes.{escape_free, free-append}
pub use Rattle.whole_lines.proofs.Lines.{all_more, flat_end, free_uncut, joined_lines, line_first, line_same, no_lines, torn}
pub use Rattle.whole_lines.proofs.Numbers.{decimal_free}
pub use Rattle.whole_lines.proofs.Paths.{path_again, path_takes}
pub use Rattle.whole_lines.proofs.WholeLines.{Form, cons_parts}
pub use Rattle.whole_lines.proofs.Words.{IsFree, cut_again, cut_takes}
pub use Rattle.whole_lines.specs.Lines.{end_text, line, lines_of}
pub use Rattle.whole_lines.specs.Words.{cut, path_from}
pub use Rattle.circle_lists.specs.Checkpoint.{AllFit, Fits, HasNoPlace, HasPlace, HoldFirst, HoldsList, Reached, ReadsBack, SameButFiles, StopsReading}
pub use Rattle.circle_lists.specs.Checkpoint.{StopsReadingAt, StopsWriting, StopsWritingAt, file_name, file_path}
pub use Rattle.circle_lists.specs.Private.{Ends, EndsBadly, HeadsNone, IsCause, IsHead, most_ranks}
pub use Rattle.circle_lists.specs.Spelling.{Agrees, Begins, DamagedOnce, IsDamaged, IsList, IsRank, IsWritable, Spells, SpellsOne, head_text, lines_for}
pub use Rattle.circle_lists.specs.Spelling.{path_lines}
pub use Rattle.circle_lists.specs.declared.decoding.RankList.{RankList}
pub use Rattle.circle_lists.specs.declared.decoding.Refused.{Refused}
pub use Rattle.circle_lists.specs.declared.errors.ListsError.{ListsError}
