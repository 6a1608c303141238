use Rattle.flat_list.proofs.Prelude.{◌++◌, flat_map, IsPermutation}
use Rattle.flat_list.proofs.merging.give_in_turn.Given as goal

abbrev pub invariant-loop : goal.invariant-loop
invariant-loop l = IsPermutation (l.fn.all ++ flat_map (λ s. s) l.fn.sources.items) (l.all ++ flat_map (λ s. s) l.sources.items)
