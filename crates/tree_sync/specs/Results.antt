-- The results of a sync. Our own.
use Rattle.std.specs.Prelude.{ℕ, List}
use Rattle.level_work.specs.declared.items.Fate.{Fate}

-- The fates of the copies by the paths of the source, and those of the removals by the paths of the destination. The number of kept
-- entries, and the files whose reads failed or showed a change
pub record Results : Type 0 where
  pub copies : List (List ℕ × Fate)
  pub removals : List (List ℕ × Fate)
  pub kept : ℕ
  pub failed : List (List ℕ)
  pub changed : List (List ℕ)
