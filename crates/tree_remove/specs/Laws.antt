-- When all chosen paths go. Our own.
use Rattle.std.specs.Prelude.{◌≡◌, ℕ, true, List, map, is_some, nat_eq, All}
use Rattle.std.specs.FinMap.{get}
use Rattle.std.specs.List.{list_any, count_by}
use Rattle.std.specs.Cmp.Lexicographic.{pointwise}
use Rattle.path_text.specs.Order.{is_under}
use Rattle.outside.specs.Tree.{Files, far_at}
use Rattle.level_work.specs.Counts.{is_failed}
use Rattle.level_work.specs.declared.items.Fate.{Fate}
use Rattle.level_work.specs.declared.items.Fate.TheVariants as fate
use Rattle.tree_remove.specs.Removing.{Removed}

-- if a path is one of these, all nodes under it are too
abbrev pub AreWhole : Files → List (List ℕ) → Type 0
AreWhole files chosen =
    (p q : List ℕ) → list_any (pointwise nat_eq p) chosen ≡ true → is_under q p ≡ true → is_some (get files q) ≡ true →
    list_any (pointwise nat_eq q) chosen ≡ true

-- If no removal failed, all chosen paths are gone. This needs that all nodes under them were chosen too, and that no directory of
-- them has a child whose path is too long
abbrev pub WholeChoicesGo : Type 0
WholeChoicesGo =
    (rows : List (List ℕ × Fate)) (before after : Files) → Removed rows before after → AreWhole before (map (λ row. row.0) rows) →
    All (λ row. far_at (get before row.0) ≡ 0) rows → count_by (λ row. is_failed row.1) rows ≡ 0 → All (λ row. row.1 ≡ fate.Done) rows
