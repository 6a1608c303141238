use Rattle.path_text.proofs.Prelude.{◌≡◌, ◌+◌, drop, nat_eq, common_prefix_len}
use Rattle.path_text.proofs.prefixes.common_len.Given as goal

abbrev pub invariant-loop-i : goal.invariant-loop-i
invariant-loop-i l = common_prefix_len nat_eq l.a l.b ≡ l.i + common_prefix_len nat_eq (drop l.i l.a) (drop l.i l.b)
