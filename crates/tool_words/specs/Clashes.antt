-- Options that may not stand together, a line each: the number of the word that is named where they do. Our own.
use Rattle.std.specs.Prelude.{ℕ, List, ◌&&◌, not, if◌then◌else◌, min, nat_lt, find, Option, Some, None, is_some, is_none}
use Rattle.std.specs.Option.{option_map, option_or}
use Rattle.tool_words.specs.declared.tables.OptionName.{OptionName}
use Rattle.tool_words.specs.declared.tables.OptionName.TheVariants as option
use Rattle.tool_words.specs.declared.tables.Placed.{Placed}
use Rattle.tool_words.specs.Table.{text_of, Set}
use Rattle.tool_words.specs.Value.{is}

-- the number of the word in which an option stands first, if it was given
abbrev pub place_of : OptionName → List Placed → Option ℕ
place_of option options = option_map (λ first. first.place) (find (λ given. is (text_of option) (text_of given.option)) options)

-- `--trace` with more than one host: the events of several threads stand in no one order
abbrev pub trace_on_hosts : List Placed → Set → Option ℕ
trace_on_hosts options s = if nat_lt 1 s.common.hosts then place_of option.Trace options else None

-- `--trace` with a stop: the events would be those of a walk that is not whole
abbrev pub trace_and_stop : List Placed → Set → Option ℕ
trace_and_stop options s = if is_some s.stop_after then place_of option.Trace options else None

-- a list that is read, with a walk that goes on
abbrev pub input_and_restart : List Placed → Set → Option ℕ
input_and_restart options s = if is_some s.input then place_of option.Restart options else None

-- the first of two places
abbrev pub first_of : Option ℕ → Option ℕ → Option ℕ
first_of None other = other
first_of (Some place) None = Some place
first_of (Some place) (Some other) = Some (min place other)

-- a walk that stops or goes on, without a folder of lists
abbrev pub no_lists : List Placed → Set → Option ℕ
no_lists options s = if is_some s.lists then None else first_of (place_of option.StopAfter options) (place_of option.Restart options)

-- a folder of lists, with a walk that neither stops nor goes on
abbrev pub lists_alone : List Placed → Set → Option ℕ
lists_alone options s = if is_none s.stop_after && not s.restart then place_of option.Lists options else None

-- a list that is read, with a stop
abbrev pub input_and_stop : List Placed → Set → Option ℕ
input_and_stop options s = if is_some s.input then place_of option.StopAfter options else None

-- the first line that applies
abbrev pub clash_in : List Placed → Set → Option ℕ
clash_in options s =
    option_or (trace_on_hosts options s)
    (option_or (trace_and_stop options s)
    (option_or (input_and_restart options s)
    (option_or (no_lists options s)
    (option_or (lists_alone options s) (input_and_stop options s)))))
