use Rattle.path_text.proofs.Prelude.{◌≡◌, take, list_any, is_escaped}
use Rattle.path_text.proofs.escaping.has_escaped.Given as goal

abbrev pub invariant-loop-b : goal.invariant-loop-b
invariant-loop-b l = l.found ≡ list_any is_escaped (take l.b-index l.bytes)
