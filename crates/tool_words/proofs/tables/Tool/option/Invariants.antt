use Rattle.tool_words.proofs.Prelude.{◌≡◌, drop, find, flat_map, text_of, options_in, option_named, is}
use Rattle.tool_words.proofs.tables.Tool.option.Given as goal

-- the option is none of the groups before
abbrev pub invariant-loop-group : goal.invariant-loop-group
invariant-loop-group l = find (λ o. is (text_of o) l.text) (flat_map options_in (drop l.group-index l.group-items)) ≡ option_named l.fn.self l.text
