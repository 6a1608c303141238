-- All that words give is within the limits, word by word.
use Rattle.tool_words.proofs.Prelude.{◌^◌, ◌≡◌, ◌≢◌, ℕ, ◌+◌, ◌≤◌, ◌<◌, Bool, true, false, cond, refl, ap, sym, ◌∙◌, arith, Option, Some, None, List, [], ◌∷◌}
use Rattle.tool_words.proofs.Prelude.{◌++◌, length, find, Result, Ok, Err, All, IfSome, IfOk, is_some, nat_lt, option_map, option_or, AllByRecursion, All-cons}
use Rattle.tool_words.proofs.Prelude.{All-from_recursion, All-take, find-append, nat_tests, Field, refusal, Common, Refusal, Tool, OptionName, Placed, Turn}
use Rattle.tool_words.proofs.Prelude.{Origin, roots, input, Asked, walk_by, place_of, trace_on_hosts, trace_and_stop, clash_in, Valid, Lower, paths_in}
use Rattle.tool_words.proofs.Prelude.{CommonWithin, ChoiceWithin, Within, tool_named, option_named, Set, set, raise, is, number_in, path_in, lower_path_in}
use Rattle.tool_words.proofs.Prelude.{ends_options, is_option, name_in, value_in, Given, nothing, and_then, at_end, with_words, with_path, with_lower}
use Rattle.tool_words.proofs.Prelude.{with_number, with_plain, with_settings, is_repeated, with_another, with_own_value, with_next_value, with_flag}
use Rattle.tool_words.proofs.Prelude.{with_option, with_word, start_by, begin_by, sides_by, sources_by, roots_by, nodes_by, choice_of, asked_of, unless_clash}
use Rattle.tool_words.proofs.Prelude.{command_of, reading_for, reading}
use Rattle.tool_words.proofs.SettingsFit.{one_of, both, one_more, FileValid, Fits, Counts, Fine, Makeable, Stands, FineSoFar, path_valid, path_lower}
use Rattle.tool_words.proofs.SettingsFit.{set_fine, raise_fine, SameTrace, set_leaves}
use Rattle.tool_words.proofs.Numbers.{number_within}
use Rattle.tool_words.specs.declared.tables.Tool.TheVariants as tool
use Rattle.tool_words.specs.declared.tables.OptionName.TheVariants as option
use Rattle.tool_words.specs.declared.turns.Turn.TheVariants as turn
use Rattle.tool_words.specs.Table.{text_of}

-- the option is `--trace`
abbrev is_trace : Placed → Bool
is_trace given = is (text_of option.Trace) (text_of given.option)

abbrev IsFound : Option Placed → Type 0
IsFound o = is_some (option_map (λ p. p.place) o) ≡ true

found_first : (o rest : Option Placed) → IsFound o → IsFound (option_or o rest)
found_first (Some p) rest e = refl
found_first None rest e = cc

found_then : (o rest : Option Placed) → IsFound rest → IsFound (option_or o rest)
found_then (Some p) rest e = refl
found_then None rest e = e

-- what stands among options stands among more of them
still_stands : (options : List Placed) (last : Placed) (s : Set) → Stands options s → Stands (options ++ last ∷ []) s
still_stands options last s h t =
    ap (λ o. is_some (option_map (λ p. p.place) o)) (find-append is_trace options (last ∷ []))
    ∙ found_first (find is_trace options) (find is_trace (last ∷ [])) (h t)

-- and `--trace` stands among them once it is read
now_stands : (options : List Placed) (place : ℕ) → is_some (place_of option.Trace (options ++ record { option = option.Trace; place = place } ∷ [])) ≡ true
unfolding text_of
now_stands options place =
    let last : Placed = record { option = option.Trace; place = place } in
    ap (λ o. is_some (option_map (λ p. p.place) o)) (find-append is_trace options (last ∷ []))
    ∙ found_then (find is_trace options) (find is_trace (last ∷ [])) refl

raise_stands : (option : OptionName) (place : ℕ) (options : List Placed) (s : Set) → Stands options s →
    IfSome (raise option s) (Stands (options ++ record { option = option; place = place } ∷ []))
raise_stands option.Trace place options s h = λ t. now_stands options place
raise_stands option.Shares place options s h = still_stands options _ s h
raise_stands option.Progress place options s h = still_stands options _ s h
raise_stands option.Dryrun place options s h = still_stands options _ s h
raise_stands option.Delete place options s h = still_stands options _ s h
raise_stands option.Restart place options s h = still_stands options _ s h
raise_stands _ place options s h = tt

path_fine : (given : Given) (place : ℕ) (path : Option (List ℕ)) → FineSoFar given → IfSome path Valid → IfOk (with_path given place path) FineSoFar
path_fine given place (Some path) f v = record {
  settings = f.settings;
  paths = one_more Valid given.paths path f.paths v;
  lower = f.lower;
  numbers = f.numbers;
  trace = f.trace;
}
path_fine given place None f v = tt

lower_fine : (given : Given) (place : ℕ) (path : Option (List ℕ)) → FineSoFar given → IfSome path Lower → IfOk (with_lower given place path) FineSoFar
lower_fine given place (Some path) f v = record {
  settings = f.settings;
  paths = f.paths;
  lower = one_more Lower given.lower path f.lower v;
  numbers = f.numbers;
  trace = f.trace;
}
lower_fine given place None f v = tt

number_fits : (word : List ℕ) → IfSome (number_in 1 1000000 word) Makeable
number_fits word = if_found (number_in 1 1000000 word) (number_within 1 1000000 word)
  where
    if_found : (o : Option ℕ) → ((n : ℕ) → o ≡ Some n → Makeable n) → IfSome o Makeable
    if_found (Some n) h = h n refl
    if_found None h = tt

number_fine : (given : Given) (place : ℕ) (number : Option ℕ) → FineSoFar given → IfSome number Makeable → IfOk (with_number given place number) FineSoFar
number_fine given place (Some n) f v = record {
  settings = f.settings;
  paths = f.paths;
  lower = f.lower;
  numbers = one_more Makeable given.numbers n f.numbers v;
  trace = f.trace;
}
number_fine given place None f v = tt

plain_fine : (tool : Tool) (given : Given) (place : ℕ) (word : List ℕ) → FineSoFar given → IfOk (with_plain tool given place word) FineSoFar
plain_fine tool.Walk given place word f = path_fine given place (path_in word) f (path_valid word)
plain_fine tool.Find given place word f = path_fine given place (path_in word) f (path_valid word)
plain_fine tool.Cmp given place word f = path_fine given place (path_in word) f (path_valid word)
plain_fine tool.Copy given place word f = path_fine given place (path_in word) f (path_valid word)
plain_fine tool.Sync given place word f = path_fine given place (path_in word) f (path_valid word)
plain_fine tool.Dup given place word f = path_fine given place (path_in word) f (path_valid word)
plain_fine tool.Remove given place word f = lower_fine given place (lower_path_in word) f (path_lower word)
plain_fine tool.Test given place word f = number_fine given place (number_in 1 1000000 word) f (number_fits word)

settings_fine : (given : Given) (place : ℕ) (settings : Option Set) →
    FineSoFar given → IfSome settings Fine → IfSome settings (SameTrace given.settings) → IfOk (with_settings given place settings) FineSoFar
settings_fine given place (Some settings) f h same =
    record { settings = h; paths = f.paths; lower = f.lower; numbers = f.numbers; trace = λ t. f.trace (sym same ∙ t) }
settings_fine given place None f h same = tt

value_fine : (given : Given) (place : ℕ) (option : OptionName) (text : List ℕ) →
    FineSoFar given → IfOk (with_settings given place (set option text given.settings)) FineSoFar
value_fine given place option text f =
    settings_fine given place (set option text given.settings) f (set_fine option text given.settings f.settings) (set_leaves option text given.settings)

another_fine : (given : Given) (place : ℕ) (option : OptionName) → FineSoFar given → IfOk (with_another given place option) FineSoFar
another_fine given place option f =
    one_of (λ r. IfOk r FineSoFar) (is_repeated option given.options) _ _ tt
    (record { settings = f.settings; paths = f.paths; lower = f.lower; numbers = f.numbers; trace = still_stands given.options _ given.settings f.trace })

own_fine : (given : Given) (place : ℕ) (option : OptionName) (text : List ℕ) → FineSoFar given → IfOk (with_own_value given place option text) FineSoFar
own_fine given place option text f =
    both FineSoFar FineSoFar (with_settings given place (set option text given.settings)) (λ g. with_another g place option)
    (value_fine given place option text f)
    (λ g h. another_fine g place option h)

next_fine : (given : Given) (at : ℕ) (option : OptionName) (place : ℕ) (word : List ℕ) →
    FineSoFar given → IfOk (with_next_value given at option place word) FineSoFar
next_fine given at option place word f =
    both FineSoFar FineSoFar (with_another given at option) (λ g. with_settings g place (set option word g.settings))
    (another_fine given at option f)
    (λ g h. value_fine g place option word h)

flag_fine : (given : Given) (place : ℕ) (option : OptionName) (settings : Option Set) → FineSoFar given → IfSome settings Fine →
    IfSome settings (Stands (given.options ++ record { option = option; place = place } ∷ [])) → IfOk (with_flag given place option settings) FineSoFar
flag_fine given place option (Some settings) f h stands =
    one_of (λ r. IfOk r FineSoFar) (is_repeated option given.options) _ _ tt
    (record { settings = h; paths = f.paths; lower = f.lower; numbers = f.numbers; trace = stands })
flag_fine given place option None f h stands = record { settings = f.settings; paths = f.paths; lower = f.lower; numbers = f.numbers; trace = f.trace }

option_fine : (given : Given) (place : ℕ) (option : Option OptionName) (value : Option (List ℕ)) →
    FineSoFar given → IfOk (with_option given place option value) FineSoFar
option_fine given place None value f = tt
option_fine given place (Some option) (Some text) f = own_fine given place option text f
option_fine given place (Some option) None f =
    flag_fine given place option (raise option given.settings) f (raise_fine option given.settings f.settings)
    (raise_stands option place given.options given.settings f.trace)

word_fine : (tool : Tool) (next : Turn) (given : Given) (place : ℕ) (word : List ℕ) → FineSoFar given → IfOk (with_word tool next given place word) FineSoFar
word_fine tool turn.Any given place word f =
    one_of (λ r. IfOk r FineSoFar) (ends_options word) _ _
    (record { settings = f.settings; paths = f.paths; lower = f.lower; numbers = f.numbers; trace = f.trace })
    (one_of (λ r. IfOk r FineSoFar) (is_option word) _ _
    (option_fine given place (option_named tool (name_in word)) (value_in word) f)
    (plain_fine tool given place word f))
word_fine tool (turn.Value option at) given place word f = next_fine given at option place word f
word_fine tool turn.Plain given place word f = plain_fine tool given place word f

end_fine : (next : Turn) (given : Given) → FineSoFar given → IfOk (at_end next given) FineSoFar
end_fine turn.Any given f = f
end_fine (turn.Value option place) given f = tt
end_fine turn.Plain given f = f

words_fine : (tool : Tool) (place : ℕ) (words : List (List ℕ)) (given : Given) → FineSoFar given → IfOk (with_words tool place words given) FineSoFar
words_fine tool place [] given f = end_fine given.next given f
words_fine tool place (word ∷ words) given f =
    both FineSoFar FineSoFar (with_word tool given.next given place word) (with_words tool (place + 1) words)
    (word_fine tool given.next given place word f)
    (words_fine tool (place + 1) words)

nothing_fine : FineSoFar nothing
nothing_fine = record {
  settings = record {
    common = record { ranks = (omega arith, omega arith); hosts = (omega arith, omega arith); seed = omega arith; width = (omega arith, omega arith) };
    input = tt;
    output = tt;
    newer = tt;
    wants = tt;
    range = tt;
    stop = tt;
    lists = tt;
  };
  paths = tt;
  lower = tt;
  numbers = tt;
  trace = λ t. t;
}

abbrev StartWithin : Origin → Type 0
StartWithin start = All Valid (paths_in start)

start_fine : (wanting : ℕ) (file : Option (List ℕ)) (paths : List (List ℕ)) (places : List ℕ) →
    IfSome file Valid → AllByRecursion Valid paths → IfOk (start_by wanting file paths places) StartWithin
start_fine wanting None [] places v h = tt
start_fine wanting None (path ∷ paths) places v h = All-from_recursion Valid (path ∷ paths) h
start_fine wanting (Some file) paths [] v h = All-from_recursion Valid (file ∷ []) (v, tt)
start_fine wanting (Some file) paths (place ∷ places) v h = tt

-- where a walk begins, if not where an earlier one stopped
abbrev BeginWithin : Option Origin → Type 0
BeginWithin begin = IfSome begin StartWithin

begin_fine : (wanting : ℕ) (file : Option (List ℕ)) (again : Bool) (paths : List (List ℕ)) (places : List ℕ) →
    IfSome file Valid → AllByRecursion Valid paths → IfOk (begin_by wanting file again paths places) BeginWithin
begin_fine wanting file false paths places v h =
    both StartWithin BeginWithin (start_by wanting file paths places) (λ start. Ok (Some start)) (start_fine wanting file paths places v h) (λ start s. s)
begin_fine wanting file true paths [] v h = tt
begin_fine wanting file true paths (place ∷ places) v h = tt

abbrev SidesWithin : List ℕ × List ℕ → Type 0
SidesWithin sides = Valid sides.0 × Valid sides.1

sides_fine : (wanting : ℕ) (paths : List (List ℕ)) (places : List ℕ) → AllByRecursion Valid paths → IfOk (sides_by wanting paths places) SidesWithin
sides_fine wanting [] [] h = tt
sides_fine wanting [] (first ∷ []) h = tt
sides_fine wanting [] (first ∷ second ∷ []) h = tt
sides_fine wanting [] (first ∷ second ∷ another ∷ places) h = tt
sides_fine wanting (left ∷ []) [] h = tt
sides_fine wanting (left ∷ []) (first ∷ []) h = tt
sides_fine wanting (left ∷ []) (first ∷ second ∷ []) h = tt
sides_fine wanting (left ∷ []) (first ∷ second ∷ another ∷ places) h = tt
sides_fine wanting (left ∷ right ∷ paths) [] h = tt
sides_fine wanting (left ∷ right ∷ paths) (first ∷ []) h = tt
sides_fine wanting (left ∷ right ∷ paths) (first ∷ second ∷ []) h = (h.0, h.1.0)
sides_fine wanting (left ∷ right ∷ paths) (first ∷ second ∷ another ∷ places) h = tt

-- sources, one or more, and a destination
record EndsWithin (ends : List (List ℕ) × List ℕ) : Type 0 where
  sources : All Valid ends.0
  dest : Valid ends.1
  some : 1 ≤ length ends.0

sources_fine : (wanting : ℕ) (paths : List (List ℕ)) → AllByRecursion Valid paths → IfOk (sources_by wanting paths) EndsWithin
sources_fine wanting [] h = tt
sources_fine wanting (source ∷ []) h = tt
sources_fine wanting (source ∷ path ∷ paths) h =
    let later : All Valid (path ∷ paths) = All-from_recursion Valid (path ∷ paths) h.1 in
    record {
      sources = All-cons Valid source _ h.0 (All-take Valid (length paths) (path ∷ paths) later);
      dest = later (length paths) path (omega arith);
      some = omega arith;
    }

-- roots, one or more
record RootsWithin (P : List ℕ → Type 0) (paths : List (List ℕ)) : Type 0 where
  each : All P paths
  some : 1 ≤ length paths

roots_fine : (P : List ℕ → Type 0) (wanting : ℕ) (paths : List (List ℕ)) → AllByRecursion P paths → IfOk (roots_by wanting paths) (RootsWithin P)
roots_fine P wanting [] h = tt
roots_fine P wanting (path ∷ paths) h = record { each = All-from_recursion P (path ∷ paths) h; some = omega arith }

nodes_fine : (wanting : ℕ) (numbers places : List ℕ) → AllByRecursion Makeable numbers → IfOk (nodes_by wanting numbers places) Makeable
nodes_fine wanting [] [] h = tt
nodes_fine wanting (n ∷ numbers) [] h = tt
nodes_fine wanting [] (place ∷ []) h = tt
nodes_fine wanting (n ∷ numbers) (place ∷ []) h = h.0
nodes_fine wanting [] (place ∷ another ∷ places) h = tt
nodes_fine wanting (n ∷ numbers) (place ∷ another ∷ places) h = tt

choice_fine : (s : Set) → Fine s → ChoiceWithin (choice_of s)
choice_fine s f = All-from_recursion Valid s.newer f.newer

-- a trace is of one host, where no options clash
only_one : (n : ℕ) → 1 ≤ n → nat_lt 1 n ≡ false → n ≡ 1
only_one n l e = grind (arith, nat_tests)

not_none : (o : Option ℕ) → is_some o ≡ true → o ≢ None
not_none (Some place) s e = cc
not_none None s e = cc

-- no line on a trace applies
record IsFree (options : List Placed) (s : Set) : Type 0 where
  hosts : trace_on_hosts options s ≡ None
  stop : trace_and_stop options s ≡ None

neither : (o p : Option ℕ) → option_or o p ≡ None → (o ≡ None) × (p ≡ None)
neither None p e = (refl, e)
neither (Some place) p e = cc

is_free : (options : List Placed) (s : Set) → clash_in options s ≡ None → IsFree options s
is_free options s e =
    let first = neither (trace_on_hosts options s) _ e in
    let second = neither (trace_and_stop options s) _ first.1 in
    record { hosts = first.0; stop = second.0 }

one_host : (options : List Placed) (s : Set) → Fits s.common → Stands options s → trace_on_hosts options s ≡ None → s.common.trace ≡ true → s.common.hosts ≡ 1
one_host options s f stands none t =
    elim (nat_lt 1 s.common.hosts) as
    (λ b. nat_lt 1 s.common.hosts ≡ b → cond b (place_of option.Trace options) None ≡ None → s.common.hosts ≡ 1) [
      | true ↦ λ many e. absurd (not_none (place_of option.Trace options) (stands t) e)
      | false ↦ λ few e. only_one s.common.hosts f.hosts.0 few
    ] refl none

common_fine : (given : Given) → FineSoFar given → IsFree given.options given.settings → CommonWithin given.settings.common
common_fine given f free =
    let fits = f.settings.common in
    record {
      ranks = fits.ranks;
      hosts = fits.hosts;
      seed = fits.seed;
      width = fits.width;
      trace = one_host given.options given.settings fits f.trace free.hosts;
    }

-- and a stop has no trace
abbrev StopWithin : Bool → ℕ → Type 0
StopWithin trace n = (1 ≤ n) × (n < 2 ^ 63) × (trace ≡ false)

no_trace : (place : Option ℕ) (trace : Bool) → (trace ≡ true → is_some place ≡ true) → place ≡ None → trace ≡ false
no_trace place true stands none = absurd (not_none place (stands refl) none)
no_trace place false stands none = refl

stop_fine : (stop : Option ℕ) (place : Option ℕ) (trace : Bool) → IfSome stop Counts → (trace ≡ true → is_some place ≡ true) →
    cond (is_some stop) place None ≡ None → IfSome stop (StopWithin trace)
stop_fine None place trace fits stands none = tt
stop_fine (Some n) place trace fits stands none = (fits.0, fits.1, no_trace place trace stands none)

-- a walk that is whole, and one that stops or goes on
walk_fine : (common : Common) (begin : Option Origin) (sort : Option (Field × Bool)) (output : Option (List ℕ)) (stop : Option ℕ) (lists : Option (List ℕ)) →
    CommonWithin common → BeginWithin begin → IfSome output Valid → IfSome stop (StopWithin common.trace) → IfSome lists Valid →
    Within (walk_by common begin sort output stop lists)
walk_fine common None sort output stop (Some lists) c b o s l = record { common = c; starts = tt; stop = s; lists = l; output = o }
walk_fine common (Some (roots paths)) sort output (Some n) (Some lists) c b o s l = record { common = c; starts = b; stop = s; lists = l; output = o }
walk_fine common (Some (roots paths)) sort output (Some n) None c b o s l = record { common = c; start = b; chosen = tt; output = o }
walk_fine common (Some (roots paths)) sort output None lists c b o s l = record { common = c; start = b; chosen = tt; output = o }
walk_fine common (Some (input file)) sort output stop lists c b o s l = record { common = c; start = b; chosen = tt; output = o }
walk_fine common None sort output stop None c b o s l = record { common = c; start = All-from_recursion Valid [] tt; chosen = tt; output = o }

asked_fine : (wanting : ℕ) (tool : Tool) (given : Given) → FineSoFar given → IsFree given.options given.settings → CommonWithin given.settings.common →
    IfOk (asked_of wanting tool given) Within
asked_fine wanting tool.Walk given f free common =
    let s = given.settings in
    both BeginWithin Within (begin_by wanting s.input s.restart given.paths given.places) _
    (begin_fine wanting s.input s.restart given.paths given.places f.settings.input f.paths)
    (λ begin b.
    walk_fine s.common begin s.sort s.output s.stop_after s.lists common b f.settings.output
    (stop_fine s.stop_after (place_of option.Trace given.options) s.common.trace f.settings.stop f.trace free.stop)
    f.settings.lists)
asked_fine wanting tool.Find given f free common =
    both StartWithin Within (start_by wanting given.settings.input given.paths given.places) _
    (start_fine wanting given.settings.input given.paths given.places f.settings.input f.paths)
    (λ start s. record { common = common; start = s; chosen = choice_fine given.settings f.settings; output = f.settings.output })
asked_fine wanting tool.Cmp given f free common =
    both SidesWithin Within (sides_by wanting given.paths given.places) _
    (sides_fine wanting given.paths given.places f.paths)
    (λ sides v. record {
      common = common;
      left = v.0;
      right = v.1;
      files = All-from_recursion FileValid given.settings.wants f.settings.wants;
    })
asked_fine wanting tool.Copy given f free common =
    both EndsWithin Within (sources_by wanting given.paths) _
    (sources_fine wanting given.paths f.paths)
    (λ ends e. record { common = common; sources = e.sources; dest = e.dest; some = e.some; range = f.settings.range })
asked_fine wanting tool.Sync given f free common =
    both SidesWithin Within (sides_by wanting given.paths given.places) _
    (sides_fine wanting given.paths given.places f.paths)
    (λ sides v. record { common = common; source = v.0; dest = v.1 })
asked_fine wanting tool.Dup given f free common =
    both (RootsWithin Valid) Within (roots_by wanting given.paths) _
    (roots_fine Valid wanting given.paths f.paths)
    (λ paths r. record { common = common; roots = r.each; some = r.some })
asked_fine wanting tool.Remove given f free common =
    both (RootsWithin Lower) Within (roots_by wanting given.lower) _
    (roots_fine Lower wanting given.lower f.lower)
    (λ paths r. record { common = common; roots = r.each; choice = choice_fine given.settings f.settings })
asked_fine wanting tool.Test given f free common =
    both Makeable Within (nodes_by wanting given.numbers given.places) _
    (nodes_fine wanting given.numbers given.places f.numbers)
    (λ nodes n. record { common = common; nodes = n; choice = choice_fine given.settings f.settings })

last_fine : (r : Result Asked Refusal) (clash : Option ℕ) → (clash ≡ None → IfOk r Within) → IfOk (and_then r (unless_clash clash)) Within
last_fine (Ok asked) None h = h refl
last_fine (Ok asked) (Some place) h = tt
last_fine (Err refusal) clash h = tt

command_fine : (wanting : ℕ) (tool : Tool) (given : Given) → FineSoFar given → IfOk (command_of wanting tool given) Within
command_fine wanting tool given f =
    last_fine (asked_of wanting tool given) (clash_in given.options given.settings)
    (λ none. let free = is_free given.options given.settings none in asked_fine wanting tool given f free (common_fine given f free))

tool_fine : (tool : Option Tool) (words : List (List ℕ)) → IfOk (reading_for tool words) Within
tool_fine None words = tt
tool_fine (Some tool) words =
    both FineSoFar Within (with_words tool 1 words nothing) (command_of (length words + 1) tool)
    (words_fine tool 1 words nothing nothing_fine)
    (command_fine (length words + 1) tool)

reading_fine : (words : List (List ℕ)) → IfOk (reading words) Within
reading_fine [] = tt
reading_fine (tool ∷ words) = tool_fine (tool_named tool) words

pub within : (words : List (List ℕ)) (asked : Asked) → reading words ≡ Ok asked → Within asked
within words asked e = let h = reading_fine words in rw e at h
