use Rattle.flat_list.proofs.Prelude.{◌≡◌, ◌++◌, flat_map}
use Rattle.flat_list.proofs.merging.give_rest.Given as goal

abbrev pub invariant-loop-source : goal.invariant-loop-source
invariant-loop-source l = l.all ≡ l.fn.all ++ flat_map (λ s. s) l.yielded
