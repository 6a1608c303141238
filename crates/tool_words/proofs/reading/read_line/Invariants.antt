use Rattle.tool_words.proofs.Prelude.{map, string_bytes}
use Rattle.tool_words.proofs.Steps.{Read}
use Rattle.tool_words.proofs.reading.read_line.Given as goal

-- what the words before gave
abbrev pub invariant-loop-index : goal.invariant-loop-index
invariant-loop-index l = Read l.tool (map string_bytes l.words) l.index l.line
