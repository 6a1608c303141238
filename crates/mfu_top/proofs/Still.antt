-- Where nothing has changed, no tool has changed what it may not.
use Rattle.mfu_top.proofs.Prelude.{rules, ℕ, refl, option_to_list, Asked, list, stage, compare, copy, sync, dup, remove, test, Side, leaves_all, unchanged}
use Rattle.mfu_top.proofs.Prelude.{Leaves}

pub still : (asked : Asked) (now : ℕ) (side : Side) → Leaves asked now side side
still (list asked) now side = leaves_all (option_to_list asked.output) side.tree side.tree refl
still (stage asked) now side = leaves_all _ side.tree side.tree refl
still (compare asked) now side = leaves_all _ side.tree side.tree refl
still (copy asked) now side = search rules
still (sync asked) now side = unchanged asked side.tree side.tree refl
still (dup asked) now side = refl
still (remove asked) now side = search rules
still (test asked) now side = refl
