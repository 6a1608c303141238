-- The names from elsewhere that the proofs of this crate cite, passed on from one place. Declares nothing.
pub use Rattle.std.proofs.Common.{Bool, List, None, Option, Some, [], ap, arith, cond, drop, drop-cons, false, find, get_or, inl, inr, length, map, refl, rules}
pub use Rattle.std.proofs.Common.{string_bytes, subst, suc, sym, take, take-append-drop, true, ℕ, ◌&&◌, ◌++◌, ◌+◌, ◌-◌, ◌<◌, ◌^◌, ◌∙◌, ◌∷◌, ◌≡◌, ◌≢◌, ◌≤◌}
pub use Rattle.std.proofs.Math.Seq.{drop-length}
pub use Rattle.std.proofs.lemmas.Bool.Decides.{nat_tests}
pub use Rattle.std.proofs.lemmas.List.Elements.{All-cons, All-from_recursion, All-take}
pub use Rattle.std.proofs.lemmas.List.Folds.{find-append}
pub use Rattle.std.proofs.lemmas.Str.Parse.{IsNumeralModel, numerals_by_value, parse_digits}
pub use Rattle.std.proofs.lemmas.Str.Pattern.{drop_at_char, strip_prefix_char, strip_suffix_char}
pub use Rattle.std.specs.Char.{is_ascii_digit}
pub use Rattle.std.specs.List.{AllByRecursion, after_first, before_first, drop-map, flat_map, list_all, position_or_len}
pub use Rattle.std.specs.Option.{option_map, option_or}
pub use Rattle.std.specs.Prelude.{All, Err, IfOk, IfSome, IsErrAnd, Ok, Result, is_none, is_some, nat_lt, slice_index, ◌==◌}
pub use Rattle.std.specs.Str.Parse.{ParsesUnsigned, digits_value}
pub use Rattle.std.specs.Str.Pattern.{CutsSuffixes, FindsCharPrefix, FindsCharSuffix, IsTrimEndMatches}
pub use Rattle.path_text.proofs.Parents.{slash_is}
pub use Rattle.path_text.specs.Path.{is_slash, refusal}
pub use Rattle.flat_list.specs.declared.ordering.Field.{Field}
pub use Rattle.tree_cmp.specs.Expressions.{expr_reading}
pub use Rattle.tree_cmp.specs.declared.conditions.Condition.{Condition}
pub use Rattle.tool_words.specs.Asked.{Asked, Origin, asked_by, input, roots, walk_by}
pub use Rattle.tool_words.specs.Clashes.{clash_in, place_of, trace_and_stop, trace_on_hosts}
pub use Rattle.tool_words.specs.Limits.{ChoiceWithin, CommonWithin, Lower, Valid, Within, paths_in}
pub use Rattle.tool_words.specs.Parts.{Reads, Tells}
pub use Rattle.tool_words.specs.Refusals.{refusal_in}
pub use Rattle.tool_words.specs.Table.{Set, option_named, options_in, raise, set, text_of, tool_named}
pub use Rattle.tool_words.specs.Value.{before_end_slashes, if_expr, is, is_colon, lower_path_in, number_in, order_in, path_in, split_in, test_in, trimmed}
pub use Rattle.tool_words.specs.Value.{want_by, want_in}
pub use Rattle.tool_words.specs.Words.{Given, and_then, asked_of, at_end, begin_by, choice_of, command_of, ends_options, is_option, is_repeated, name_in}
pub use Rattle.tool_words.specs.Words.{nodes_by, nothing, reading, reading_for, roots_by, sides_by, sources_by, start_by, unless_clash, value_in, with_another}
pub use Rattle.tool_words.specs.Words.{with_flag, with_lower, with_next_value, with_number, with_option, with_own_value, with_path, with_plain, with_settings}
pub use Rattle.tool_words.specs.Words.{with_word, with_words}
pub use Rattle.tool_words.specs.declared.commands.Common.{Common}
pub use Rattle.tool_words.specs.declared.commands.Want.{Want}
pub use Rattle.tool_words.specs.declared.errors.Refusal.{Refusal}
pub use Rattle.tool_words.specs.declared.errors.WordsError.{WordsError}
pub use Rattle.tool_words.specs.declared.tables.Group.{Group}
pub use Rattle.tool_words.specs.declared.tables.OptionName.{OptionName}
pub use Rattle.tool_words.specs.declared.tables.Placed.{Placed}
pub use Rattle.tool_words.specs.declared.tables.Tool.{Tool}
pub use Rattle.tool_words.specs.declared.turns.Turn.{Turn}
