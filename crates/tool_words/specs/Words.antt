-- The grammar of command lines: what the words ask for, or the first word that is refused. The tools are mpiFileUtils', `--` and values are
-- as in POSIX's guidelines for utilities and GNU's long options; what is refused is our own.
use Rattle.std.specs.Prelude.{ℕ, ◌+◌, Bool, ◌&&◌, not, List, [], ◌∷◌, ◌++◌, length, take, if◌then◌else◌, ◌==◌, nat_lt, slice_index, slice_index_or}
use Rattle.std.specs.Prelude.{codes, Result, Ok, Err, Option, Some, None, true, false}
use Rattle.std.specs.List.{list_any, before_first, after_first, position_or_len}
use Rattle.tool_words.specs.declared.errors.Cause.TheVariants as cause
use Rattle.tool_words.specs.declared.errors.Refusal.{Refusal}
use Rattle.tool_words.specs.declared.tables.OptionName.{OptionName}
use Rattle.tool_words.specs.declared.tables.Placed.{Placed}
use Rattle.tool_words.specs.declared.tables.Tool.{Tool}
use Rattle.tool_words.specs.declared.tables.Tool.TheVariants as tool
use Rattle.tool_words.specs.declared.turns.Turn.{Turn}
use Rattle.tool_words.specs.declared.turns.Turn.TheVariants as turn
use Rattle.tool_words.specs.Asked.{Origin, roots, input, Choice, Asked, list, walk_by, compare, copy, sync, dup, remove, test}
use Rattle.tool_words.specs.Clashes.{clash_in}
use Rattle.tool_words.specs.Refusals.{refuse}
use Rattle.tool_words.specs.Table.{tool_named, text_of, option_named, Set, unset, adds_up, set, raise}
use Rattle.tool_words.specs.Value.{is, number_in, path_in, lower_path_in}

-- the word `--`
abbrev pub ends_options : List ℕ → Bool
ends_options word = is (codes "--") word

-- a word that begins with `-` and has another byte
abbrev pub is_option : List ℕ → Bool
is_option word = nat_lt 1 (length word) && slice_index word 0 == 45

abbrev pub is_equals : ℕ → Bool
is_equals b = b == 61

-- the name of an option stands before the first `=`, if there is one, and its value behind it
abbrev pub name_in : List ℕ → List ℕ
name_in word = before_first is_equals word

abbrev pub value_in : List ℕ → Option (List ℕ)
value_in word = if nat_lt (position_or_len is_equals word) (length word) then Some (after_first is_equals word) else None

-- what the words so far gave: the options in their order, with the numbers of their words; what they set; the plain words as paths, as
-- paths below `/` or as numbers,
-- with the numbers of these words; and what the next word is read as
pub record Given : Type 0 where
  pub next : Turn
  pub options : List Placed
  pub settings : Set
  pub paths : List (List ℕ)
  pub lower : List (List ℕ)
  pub numbers : List ℕ
  pub places : List ℕ

abbrev pub nothing : Given
nothing = record { next = turn.Any; options = []; settings = unset; paths = []; lower = []; numbers = []; places = [] }

-- one reading and then another, unless the first refuses
abbrev pub and_then : {X Y : Type 0} → Result X Refusal → (X → Result Y Refusal) → Result Y Refusal
and_then (Ok x) more = more x
and_then (Err refusal) more = Err refusal

-- with a path, if the word of this number is one
abbrev pub with_path : Given → ℕ → Option (List ℕ) → Result Given Refusal
with_path given place (Some path) = Ok (record given { paths = given.paths ++ path ∷ []; places = given.places ++ place ∷ [] })
with_path given place None = refuse place cause.BadValue

-- with a path below `/`, if the word of this number is one
abbrev pub with_lower : Given → ℕ → Option (List ℕ) → Result Given Refusal
with_lower given place (Some path) = Ok (record given { lower = given.lower ++ path ∷ []; places = given.places ++ place ∷ [] })
with_lower given place None = refuse place cause.BadValue

-- with a number, if the word of this number is one
abbrev pub with_number : Given → ℕ → Option ℕ → Result Given Refusal
with_number given place (Some n) = Ok (record given { numbers = given.numbers ++ n ∷ []; places = given.places ++ place ∷ [] })
with_number given place None = refuse place cause.BadValue

-- with a plain word: a path, which for drm is not `/`, or for dtest how many nodes its tree has
abbrev pub with_plain : Tool → Given → ℕ → List ℕ → Result Given Refusal
with_plain tool.Walk given place word = with_path given place (path_in word)
with_plain tool.Find given place word = with_path given place (path_in word)
with_plain tool.Cmp given place word = with_path given place (path_in word)
with_plain tool.Copy given place word = with_path given place (path_in word)
with_plain tool.Sync given place word = with_path given place (path_in word)
with_plain tool.Dup given place word = with_path given place (path_in word)
with_plain tool.Remove given place word = with_lower given place (lower_path_in word)
with_plain tool.Test given place word = with_number given place (number_in 1 1000000 word)

-- with what a value sets, if the word of this number holds one
abbrev pub with_settings : Given → ℕ → Option Set → Result Given Refusal
with_settings given place (Some settings) = Ok (record given { settings = settings })
with_settings given place None = refuse place cause.BadValue

-- the option was given before
abbrev pub was_given : OptionName → List Placed → Bool
was_given option options = list_any (λ other. is (text_of option) (text_of other.option)) options

-- and may not be given again
abbrev pub is_repeated : OptionName → List Placed → Bool
is_repeated option options = not (adds_up option) && was_given option options

-- with an option whose word has this number, unless it may not be given again
abbrev pub with_another : Given → ℕ → OptionName → Result Given Refusal
with_another given place option =
    if is_repeated option given.options then refuse place cause.Clash
    else Ok (record given { next = turn.Any; options = given.options ++ record { option = option; place = place } ∷ [] })

-- with an option whose value stands in its own word: a value that is refused is told before an option that may not be given again
abbrev pub with_own_value : Given → ℕ → OptionName → List ℕ → Result Given Refusal
with_own_value given place option text = and_then (with_settings given place (set option text given.settings)) (λ g. with_another g place option)

-- with an option whose value is the next word: this stands later, so it is told after an option that may not be given again
abbrev pub with_next_value : Given → ℕ → OptionName → ℕ → List ℕ → Result Given Refusal
with_next_value given at option place word = and_then (with_another given at option) (λ g. with_settings g place (set option word g.settings))

-- with a flag, or else with an option whose value is to be the next word
abbrev pub with_flag : Given → ℕ → OptionName → Option Set → Result Given Refusal
with_flag given place option (Some settings) = with_another (record given { settings = settings }) place option
with_flag given place option None = Ok (record given { next = turn.Value option place })

-- with an option of the tool, whose value stands in its own word or not
abbrev pub with_option : Given → ℕ → Option OptionName → Option (List ℕ) → Result Given Refusal
with_option given place None value = refuse place cause.UnknownOption
with_option given place (Some option) (Some text) = with_own_value given place option text
with_option given place (Some option) None = with_flag given place option (raise option given.settings)

-- with the word of this number
abbrev pub with_word : Tool → Turn → Given → ℕ → List ℕ → Result Given Refusal
with_word tool turn.Any given place word =
    if ends_options word then Ok (record given { next = turn.Plain })
    else if is_option word then with_option given place (option_named tool (name_in word)) (value_in word)
    else with_plain tool given place word
with_word tool (turn.Value option at) given place word = with_next_value given at option place word
with_word tool turn.Plain given place word = with_plain tool given place word

-- what was given, or the option that has no value
abbrev pub at_end : Turn → Given → Result Given Refusal
at_end turn.Any given = Ok given
at_end (turn.Value option place) given = refuse place cause.NoValue
at_end turn.Plain given = Ok given

-- with all of the words, the first of which has this number; or the first offence
abbrev pub with_words : Tool → ℕ → List (List ℕ) → Given → Result Given Refusal
with_words tool place [] given = at_end given.next given
with_words tool place (word ∷ words) given = and_then (with_word tool given.next given place word) (with_words tool (place + 1) words)

-- one root or more, or a file and then no root; the number is that of the word that is wanting
abbrev pub start_by : ℕ → Option (List ℕ) → List (List ℕ) → List ℕ → Result Origin Refusal
start_by wanting None [] places = refuse wanting cause.NoPath
start_by wanting None (path ∷ paths) places = Ok (roots (path ∷ paths))
start_by wanting (Some file) paths [] = Ok (input file)
start_by wanting (Some file) paths (place ∷ places) = refuse place cause.TooManyPaths

-- where a walk begins: one root or more, or a file and then no root; or nowhere, where it goes on, and then no root either
abbrev pub begin_by : ℕ → Option (List ℕ) → Bool → List (List ℕ) → List ℕ → Result (Option Origin) Refusal
begin_by wanting file false paths places = and_then (start_by wanting file paths places) (λ start. Ok (Some start))
begin_by wanting file true paths [] = Ok None
begin_by wanting file true paths (place ∷ places) = refuse place cause.TooManyPaths

-- a source and a destination, no more and no less
abbrev pub sides_by : ℕ → List (List ℕ) → List ℕ → Result (List ℕ × List ℕ) Refusal
sides_by wanting paths (first ∷ second ∷ another ∷ places) = refuse another cause.TooManyPaths
sides_by wanting (left ∷ right ∷ paths) (first ∷ second ∷ []) = Ok (left, right)
sides_by wanting paths places = refuse wanting cause.NoPath

-- one source or more, and a destination behind them, which is the last path
abbrev pub sources_by : ℕ → List (List ℕ) → Result (List (List ℕ) × List ℕ) Refusal
sources_by wanting [] = refuse wanting cause.NoPath
sources_by wanting (source ∷ []) = refuse wanting cause.NoPath
sources_by wanting (source ∷ path ∷ paths) = Ok (source ∷ take (length paths) (path ∷ paths), slice_index_or (path ∷ paths) (length paths) path)

-- one root or more
abbrev pub roots_by : ℕ → List (List ℕ) → Result (List (List ℕ)) Refusal
roots_by wanting [] = refuse wanting cause.NoPath
roots_by wanting (path ∷ paths) = Ok (path ∷ paths)

-- one number of nodes, no more and no less
abbrev pub nodes_by : ℕ → List ℕ → List ℕ → Result ℕ Refusal
nodes_by wanting numbers (place ∷ another ∷ places) = refuse another cause.TooManyPaths
nodes_by wanting (n ∷ numbers) (place ∷ []) = Ok n
nodes_by wanting numbers places = refuse wanting cause.NoPath

abbrev pub choice_of : Set → Choice
choice_of s = record { tests = s.tests; newer = s.newer }

abbrev pub walk_of : Set → Option Origin → Asked
walk_of s begin = walk_by s.common begin s.sort s.output s.stop_after s.lists

abbrev pub find_of : Set → Origin → Asked
find_of s start = list (record { common = s.common; start = start; chosen = Some (choice_of s); sort = s.sort; output = s.output })

abbrev pub compare_of : Set → List ℕ → List ℕ → Asked
compare_of s left right = compare (record { common = s.common; left = left; right = right; wants = s.wants })

abbrev pub copy_of : Set → List (List ℕ) → List ℕ → Asked
copy_of s sources dest = copy (record { common = s.common; sources = sources; dest = dest; range = s.range })

abbrev pub sync_of : Set → List ℕ → List ℕ → Asked
sync_of s source dest = sync (record { common = s.common; source = source; dest = dest; delete = s.delete })

abbrev pub dup_of : Set → List (List ℕ) → Asked
dup_of s paths = dup (record { common = s.common; roots = paths })

abbrev pub remove_of : Set → List (List ℕ) → Asked
remove_of s paths = remove (record { common = s.common; roots = paths; choice = choice_of s; dryrun = s.dryrun })

abbrev pub test_of : Set → ℕ → Asked
test_of s nodes = test (record { common = s.common; nodes = nodes; choice = choice_of s })

-- what the words of a tool ask for, if no options clash
abbrev pub asked_of : ℕ → Tool → Given → Result Asked Refusal
asked_of wanting tool.Walk given =
    and_then (begin_by wanting given.settings.input given.settings.restart given.paths given.places) (λ begin. Ok (walk_of given.settings begin))
asked_of wanting tool.Find given = and_then (start_by wanting given.settings.input given.paths given.places) (λ start. Ok (find_of given.settings start))
asked_of wanting tool.Cmp given = and_then (sides_by wanting given.paths given.places) (λ sides. Ok (compare_of given.settings sides.0 sides.1))
asked_of wanting tool.Copy given = and_then (sources_by wanting given.paths) (λ ends. Ok (copy_of given.settings ends.0 ends.1))
asked_of wanting tool.Sync given = and_then (sides_by wanting given.paths given.places) (λ sides. Ok (sync_of given.settings sides.0 sides.1))
asked_of wanting tool.Dup given = and_then (roots_by wanting given.paths) (λ paths. Ok (dup_of given.settings paths))
asked_of wanting tool.Remove given = and_then (roots_by wanting given.lower) (λ paths. Ok (remove_of given.settings paths))
asked_of wanting tool.Test given = and_then (nodes_by wanting given.numbers given.places) (λ nodes. Ok (test_of given.settings nodes))

-- options that may not stand together are told last
abbrev pub unless_clash : {X : Type 0} → Option ℕ → X → Result X Refusal
unless_clash None x = Ok x
unless_clash (Some place) x = refuse place cause.Clash

-- what the words of a tool ask for
abbrev pub command_of : ℕ → Tool → Given → Result Asked Refusal
command_of wanting tool given = and_then (asked_of wanting tool given) (unless_clash (clash_in given.options given.settings))

abbrev pub reading_for : Option Tool → List (List ℕ) → Result Asked Refusal
reading_for None words = refuse 0 cause.UnknownTool
reading_for (Some tool) words = and_then (with_words tool 1 words nothing) (command_of (length words + 1) tool)

-- what the words ask for, or why they are refused
abbrev pub reading : List (List ℕ) → Result Asked Refusal
reading [] = refuse 0 cause.NoTool
reading (tool ∷ words) = reading_for (tool_named tool) words
