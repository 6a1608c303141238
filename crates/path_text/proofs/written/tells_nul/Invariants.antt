use Rattle.path_text.proofs.Prelude.{◌≡◌, drop, tells_nul}
use Rattle.path_text.proofs.written.tells_nul.Given as goal

-- the byte 0 is not written before
abbrev pub invariant-loop-at : goal.invariant-loop-at
invariant-loop-at l = tells_nul l.name ≡ tells_nul (drop l.at l.name)
