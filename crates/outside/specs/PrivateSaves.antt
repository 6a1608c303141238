-- What a step of a save leaves, for private clauses. Our own.
use Rattle.std.specs.Prelude.{◌≡◌, ℕ, false, List, Option, IfSome, is_some, Result, Err, OnErr, IsErrOf}
use Rattle.outside.specs.Tree.{Files}
use Rattle.outside.specs.Writes.{Area, SameBut}
use Rattle.outside.specs.Count.{RoseBy}
use Rattle.outside.specs.declared.saving.SaveError.{SaveError}
use Rattle.outside.specs.declared.saving.SaveError.TheVariants as save

-- a step at the path with this answer: the trees, the areas and the counts of faults before it and after it
pub record SaveStep (path : List ℕ) (old new : Option Files) (was now : Area) (before after : ℕ) (result : Result (Unit {0}) SaveError) : Type 0 where
  pub no_place : IsErrOf result save.NoPlace → is_some old ≡ false
  pub rest : OnErr result (IfSome old (λ files. IfSome new (SameBut path files)))
  pub tells : is_some new ≡ is_some old
  pub area : now ≡ was
  pub count : RoseBy 0 before after
  pub cause : IsErrOf result save.Failed → RoseBy 1 before after
