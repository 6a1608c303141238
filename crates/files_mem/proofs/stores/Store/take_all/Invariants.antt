use Rattle.files_mem.proofs.Prelude.{◌≡◌, ℕ, List, None, cond, length, is_some, get}
use Rattle.files_mem.proofs.Copied.{gone}
use Rattle.files_mem.proofs.stores.Store.take_all.Given as goal

abbrev pub invariant-loop-key : goal.invariant-loop-key
invariant-loop-key l = (q : List ℕ) → gone l.entries q (get l.self q) ≡ cond (is_some (get l.other q)) None (get l.fn.self q)

abbrev pub decreases-loop-key : goal.decreases-loop-key
decreases-loop-key l = length l.entries
