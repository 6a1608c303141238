-- What is there is not absent.
use Rattle.tree_walk.proofs.Prelude.{◌≡◌, true, false, Option, Some, None, refl, is_some, is_none, false≢true, Node}

pub not_none : (o : Option Node) → is_some o ≡ true → is_none o ≡ false
not_none None e = absurd (false≢true e)
not_none (Some n) e = refl
