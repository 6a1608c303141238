use Rattle.path_text.proofs.Prelude.{◌≡◌, ◌+◌, drop, good_len}
use Rattle.path_text.proofs.reading.good_len.Given as goal

-- the bytes so far are good
abbrev pub invariant-loop-at : goal.invariant-loop-at
invariant-loop-at l = good_len l.text ≡ l.at + good_len (drop l.at l.text)
