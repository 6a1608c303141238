-- What the words of a command line mean as values: numbers, splits, paths, orders, tests, and what is to be saved of a comparison. The
-- names of fields are those of mpiFileUtils' dwalk, and the value of `-o` is as in its dcmp; how a path word is read is our own.
use Rattle.std.specs.Prelude.{ℕ, Bool, true, false, ◌&&◌, List, [], ◌∷◌, length, drop, if◌then◌else◌, ◌==◌, nat_eq, nat_le, nat_lt, slice_index}
use Rattle.std.specs.Prelude.{codes, Option, Some, None, is_none, Result, Ok, Err}
use Rattle.std.specs.Char.{is_ascii_digit}
use Rattle.std.specs.List.{list_all, before_first, after_first, position_or_len}
use Rattle.std.specs.Str.Parse.{digits_value}
use Rattle.std.specs.Option.{option_map}
use Rattle.std.specs.Cmp.Lexicographic.{pointwise}
use Rattle.path_text.specs.Path.{is_slash, refusal}
use Rattle.circle_run.specs.declared.settings.Split.{Split}
use Rattle.circle_run.specs.declared.settings.Split.TheVariants as split
use Rattle.flat_list.specs.declared.ordering.Field.{Field}
use Rattle.flat_list.specs.declared.ordering.Field.TheVariants as field
use Rattle.find_tests.specs.declared.errors.TestError.{TestError}
use Rattle.find_tests.specs.declared.testing.Test.{Test}
use Rattle.find_tests.specs.declared.testing.TestName.{TestName}
use Rattle.find_tests.specs.Tests.{test_reading}
use Rattle.tree_cmp.specs.declared.conditions.Condition.{Condition}
use Rattle.tree_cmp.specs.declared.errors.ExprError.{ExprError}
use Rattle.tree_cmp.specs.Expressions.{expr_reading}
use Rattle.tool_words.specs.declared.commands.Want.{Want}

-- the text is this word
abbrev pub is : List ℕ → List ℕ → Bool
is word text = pointwise nat_eq text word

-- a number from least to most, in 1 to 40 decimal digits, the first of which may be 0
abbrev pub number_in : ℕ → ℕ → List ℕ → Option ℕ
number_in least most text =
    let n = digits_value 10 text in
    if list_all is_ascii_digit text && nat_le 1 (length text) && nat_le (length text) 40 && nat_le least n && nat_le n most then Some n else None

abbrev pub split_in : List ℕ → Option Split
split_in text =
    if is (codes "equal") text then Some split.Equal
    else if is (codes "random") text then Some split.Random
    else None

-- a text without the slashes at its end
abbrev pub before_end_slashes : List ℕ → List ℕ
before_end_slashes [] = []
before_end_slashes (b ∷ text) = if is_slash b && length (before_end_slashes text) == 0 then [] else b ∷ before_end_slashes text

-- a path word as it is read: without the slashes at its end, where the first byte stays
abbrev pub trimmed : List ℕ → List ℕ
trimmed [] = []
trimmed (b ∷ word) = b ∷ before_end_slashes word

-- the path that a word is, if it is one
abbrev pub path_in : List ℕ → Option (List ℕ)
path_in word = if is_none (refusal (trimmed word)) then Some (trimmed word) else None

-- the path below `/` that a word is, if it is one
abbrev pub lower_path_in : List ℕ → Option (List ℕ)
lower_path_in word = if length (trimmed word) == 1 then None else path_in word

abbrev pub field_in : List ℕ → Option Field
field_in text =
    if is (codes "path") text then Some field.Path
    else if is (codes "name") text then Some field.Name
    else if is (codes "size") text then Some field.Size
    else if is (codes "mtime") text then Some field.Mtime
    else if is (codes "kind") text then Some field.Kind
    else None

-- a field to sort by, and whether downwards, which a `-` before the field says
abbrev pub order_in : List ℕ → Option (Field × Bool)
order_in text =
    if slice_index text 0 == 45 then option_map (λ f. (f, true)) (field_in (drop 1 text))
    else option_map (λ f. (f, false)) (field_in text)

-- the test that a text says, if it says one
abbrev pub if_test : Result Test TestError → Option Test
if_test (Ok test) = Some test
if_test (Err e) = None

abbrev pub test_in : TestName → List ℕ → Option Test
test_in name text = if_test (test_reading name text)

-- the expression that a text says, if it says one
abbrev pub if_expr : Result (List (List Condition)) ExprError → Option (List (List Condition))
if_expr (Ok expr) = Some expr
if_expr (Err e) = None

abbrev pub is_colon : ℕ → Bool
is_colon b = b == 58

abbrev pub want_by : Option (List (List Condition)) → Option (List ℕ) → Option Want
want_by None file = None
want_by (Some expr) None = None
want_by (Some expr) (Some file) = Some (record { expr = expr; file = file })

-- what is to be saved where: an expression and a path, divided by the first `:`
abbrev pub want_in : List ℕ → Option Want
want_in text =
    if nat_lt (position_or_len is_colon text) (length text)
    then want_by (if_expr (expr_reading (before_first is_colon text))) (path_in (after_first is_colon text))
    else None
