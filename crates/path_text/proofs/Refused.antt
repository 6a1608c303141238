-- A text is never refused for want of memory.
use Rattle.path_text.proofs.Prelude.{◌≡◌, ◌≢◌, ℕ, ◌+◌, Bool, true, false, not, ◌&&◌, List, [], ◌∷◌, length, refl, ◌∙◌, Option, Some, None, cond, ◌==◌, nat_lt}
use Rattle.path_text.proofs.Prelude.{nat_le, is_none, slice_split, list_any, list_all, PathError, NotAbsolute, EmptyName, DotName, Nul, TooLong, OutOfMemory}
use Rattle.path_text.proofs.Prelude.{is_slash, name_fault, first_fault, refusal}

of_name : (a b c : Bool) → cond a (Some EmptyName) (cond b (Some DotName) (cond c (Some Nul) None)) ≢ Some OutOfMemory
of_name true b c e = cc
of_name false true c e = cc
of_name false false true e = cc
of_name false false false e = cc

name_never : (name : List ℕ) → name_fault name ≢ Some OutOfMemory
name_never name = of_name (length name == 0) (nat_le (length name) 2 && list_all (λ b. b == 46) name) (list_any (λ b. b == 0) name)

first_never : (names : List (List ℕ)) → first_fault names ≢ Some OutOfMemory
first_never [] e = cc
first_never (name ∷ names) e =
    elim (name_fault name) as (λ f. name_fault name ≡ f → cond (is_none f) (first_fault names) f ≢ Some OutOfMemory) [
      | None ↦ λ p. first_never names
      | Some fault ↦ λ p e. name_never name (p ∙ e)
    ] refl e

of_path : (a b c : Bool) (rest : Option PathError) → rest ≢ Some OutOfMemory →
    cond a (Some NotAbsolute) (cond b (Some TooLong) (cond c None rest)) ≢ Some OutOfMemory
of_path true b c rest h e = cc
of_path false true c rest h e = cc
of_path false false true rest h e = cc
of_path false false false rest h e = h e

pub never_memory : (text : List ℕ) → refusal text ≢ Some OutOfMemory
never_memory [] e = cc
never_memory (b ∷ bytes) e = of_path (not (is_slash b)) (nat_lt 4095 (length bytes + 1)) (length bytes == 0)
    (first_fault (slice_split is_slash bytes)) (first_never (slice_split is_slash bytes)) e
