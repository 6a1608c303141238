-- The one line of a run that prints no listing. The texts are our own.
use Rattle.std.specs.Prelude.{ℕ, List, [], ◌∷◌, ◌++◌, codes}
use Rattle.std.specs.Fmt.{decimal}
use Rattle.path_text.specs.Escape.{escape}
use Rattle.tool_words.specs.declared.errors.Cause.{Cause}
use Rattle.tool_words.specs.declared.errors.Cause.TheVariants as cause
use Rattle.tool_words.specs.declared.errors.Refusal.{Refusal}

abbrev pub memory_line : List ℕ
memory_line = codes "out of memory" ++ 10 ∷ []

-- why a word is refused
abbrev pub cause_text : Cause → List ℕ
cause_text cause.NoTool = codes "no tool"
cause_text cause.UnknownTool = codes "unknown tool"
cause_text cause.UnknownOption = codes "unknown option"
cause_text cause.NoValue = codes "no value"
cause_text cause.BadValue = codes "bad value"
cause_text cause.NoPath = codes "no path"
cause_text cause.TooManyPaths = codes "too many paths"
cause_text cause.Clash = codes "clash"

-- the line of words that are refused: the number of the word and the reason
abbrev pub refusal_line : Refusal → List ℕ
refusal_line refusal = codes "refused word " ++ decimal refusal.word ++ 32 ∷ cause_text refusal.cause ++ 10 ∷ []

-- the line about a list file that can't be read or written
abbrev pub list_line : List ℕ → List ℕ → List ℕ
list_line why path = codes "list " ++ why ++ 32 ∷ (escape path ++ 10 ∷ [])

-- the line of a walk that stopped: how many strings it handled, and how many it left
abbrev pub stopped_line : ℕ → ℕ → List ℕ
stopped_line handled left = codes "stopped handled " ++ decimal handled ++ codes " left " ++ decimal left ++ 10 ∷ []

-- the line about a list file that is none
abbrev pub damaged_line : List ℕ → ℕ → List ℕ
damaged_line path line = codes "damaged " ++ escape path ++ codes " line " ++ decimal line ++ 10 ∷ []
