use Rattle.tree_copy.proofs.Prelude.{◌-◌, ◌≡◌, ◌≤◌, ℕ, List, Option, IfSome, length, is_some, RoseBy, Files, SameBut, EndsAt, HasFile, Holds}
use Rattle.tree_copy.proofs.filling.filled.Given as goal

-- what is so of the part's trees, at the start and now, and of the reader's
pub record SoFar (told before now : Option Files) (source path : List ℕ) (at : ℕ) : Type 0 where
  pub tells : is_some now ≡ is_some before
  pub others : IfSome before (λ b. IfSome now (SameBut path b))
  pub size : IfSome now (HasFile path at)
  pub bytes : IfSome told (λ seen. IfSome now (Holds seen source path at))

abbrev pub invariant-loop-at : goal.invariant-loop-at
invariant-loop-at g l =
    (l.at ≤ l.size) × (g.R.Tree.tree l.reader ≡ g.R.Tree.tree l.fn.reader) × (g.P.Plot.area l.part ≡ g.P.Plot.area l.fn.part)
    × (length l.buffer ≡ length l.fn.buffer) × RoseBy 0 (g.P.Plot.count l.fn.part) (g.P.Plot.count l.part)
    × RoseBy 0 (g.R.Tree.count l.fn.reader) (g.R.Tree.count l.reader)
    × SoFar (g.R.Tree.tree l.fn.reader) (g.P.Plot.tree l.fn.part) (g.P.Plot.tree l.part) l.source l.path l.at
    × EndsAt g.P.Plot.gives l.path l.at

abbrev pub decreases-loop-at : goal.decreases-loop-at
decreases-loop-at g l = l.size - l.at
