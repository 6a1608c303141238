-- A file that stands empty can be lent, and an outcome means the same by another name.
use Rattle.range_copy.proofs.Prelude.{◌≡◌, ℕ, false, not, List, [], Option, Some, None, IfSome, ap, ◌∙◌, sym, subst, Result, IfOk, IsTrue, get, IsEmptyFile}
use Rattle.range_copy.proofs.Prelude.{Files, content, is_file, is_root, Area, is_open, new_file, nothing_lent, Came, RangeError}

pub open_now : (area : Area) (p : List ℕ) → area ≡ nothing_lent → is_root p ≡ false → IsTrue (is_open area p)
open_now area p e r = ap (λ a. is_open a p) e ∙ ap not r

pub empty_now : (p : List ℕ) (t : Option Files) → IfSome t (λ files. get files p ≡ Some (new_file [])) → IfSome t (λ files. IsEmptyFile (get files p))
empty_now p None h = tt
empty_now p (Some files) h = record { is_file = ap is_file h; empty = ap content h }

-- what an outcome means, said of what is equal to it
pub as_came : (P : Came → Type 0) (r r' : Result Came RangeError) → r' ≡ r → IfOk r P → IfOk r' P
as_came P r r' e h = subst (λ x. IfOk x P) (sym e) h
