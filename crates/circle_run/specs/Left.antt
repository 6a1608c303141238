-- The strings left when a run ends or stops. Our own.
use Rattle.std.specs.Prelude.{ℕ, List, Vec}
use Rattle.std.specs.List.{flat_map}
use Rattle.std.specs.declared.alloc.Global.{Global}

-- the strings left at all ranks
abbrev pub all_left : List (Vec (List ℕ) Global) → List (List ℕ)
all_left left = flat_map (λ l. l.items) left
