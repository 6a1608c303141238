use Rattle.flat_list.proofs.Prelude.{◌≡◌, take, list_all, is_plain}
use Rattle.flat_list.proofs.following.are_plain.Given as goal

abbrev pub invariant-loop-b : goal.invariant-loop-b
invariant-loop-b l = l.plain ≡ list_all is_plain (take l.b-index l.word)
