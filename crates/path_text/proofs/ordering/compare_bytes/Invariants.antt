use Rattle.path_text.proofs.Prelude.{◌≡◌, drop, path_cmp}
use Rattle.path_text.proofs.ordering.compare_bytes.Given as goal

-- the bytes so far are the same
abbrev pub invariant-loop-i : goal.invariant-loop-i
invariant-loop-i l = path_cmp l.a l.b ≡ path_cmp (drop l.i l.a) (drop l.i l.b)
