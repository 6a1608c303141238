use Rattle.circle_lists.proofs.Encoded.{Written}
use Rattle.circle_lists.proofs.encoding.encode.Given as goal

abbrev pub invariant-loop-path : goal.invariant-loop-path
invariant-loop-path l = Written l.text.items l.rank l.ranks l.paths l.path-index
