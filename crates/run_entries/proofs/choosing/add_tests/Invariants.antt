use Rattle.run_entries.proofs.Prelude.{◌≡◌, ◌++◌, map, take, newer_than}
use Rattle.run_entries.proofs.choosing.add_tests.Given as goal

abbrev pub invariant-loop-look : goal.invariant-loop-look
invariant-loop-look l = l.tests.items ≡ l.fn.tests.items ++ map (λ k. newer_than k.seen) (take l.look-index l.looks)
