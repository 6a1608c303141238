use Rattle.range_copy.proofs.Prelude.{◌≡◌, drop, outcome_of}
use Rattle.range_copy.proofs.spanning.outcome.Given as goal

-- those so far have come to `Done`
abbrev pub invariant-loop-one : goal.invariant-loop-one
invariant-loop-one g l = outcome_of l.fillers ≡ outcome_of (drop l.one-index l.fillers)
