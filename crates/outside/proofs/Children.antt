-- The name of a child, from the path of the child.
use Rattle.outside.proofs.Prelude.{◌≡◌, ℕ, ◌<◌, Bool, true, false, ◌&&◌, List, ◌++◌, length, drop, refl, ap, ◌∙◌, sym, subst, arith, cond, eqb, Some, None}
use Rattle.outside.proofs.Prelude.{list_any, starts_with, nat_tests, front, is_slash, begins, is_one_name, name_below}
use Rattle.path_text.proofs.Preordered as after

-- of a text that begins as the children do
pub name_below-front : (p x rest : List ℕ) → x ≡ front p ++ rest → name_below p x ≡ cond (is_one_name rest) (Some rest) None
name_below-front p x rest e =
    let b = begins x (front p) rest e in
    ap (λ t. cond (t && is_one_name (drop (length (front p)) x)) (Some (drop (length (front p)) x)) None) b.1
    ∙ ap (λ r. cond (is_one_name r) (Some r) None) (sym b.0)

-- of one that does not
pub name_below-off : (p x : List ℕ) → starts_with eqb x (front p) ≡ false → name_below p x ≡ None
name_below-off p x e = ap (λ b. cond (b && is_one_name (drop (length (front p)) x)) (Some (drop (length (front p)) x)) None) e

some_of : (a c : Bool) (n m : List ℕ) → cond (a && c) (Some n) None ≡ Some m → (a ≡ true) × ((c ≡ true) × (n ≡ m))
some_of true true n m e = (refl, (refl, cc))
some_of true false n m e = cc
some_of false c n m e = cc

-- where x is a child of p with the name m
pub child_is : (p x m : List ℕ) → name_below p x ≡ Some m → (x ≡ front p ++ m) × (is_one_name m ≡ true)
child_is p x m e =
    let s = some_of (starts_with eqb x (front p)) (is_one_name (drop (length (front p)) x)) (drop (length (front p)) x) m e in
    (after.begins x (front p) s.0 ∙ ap (λ r. front p ++ r) s.1.1, subst (λ r. is_one_name r ≡ true) s.1.1 s.1.0)

pub one_name_parts : (m : List ℕ) → is_one_name m ≡ true → (0 < length m) × (list_any is_slash m ≡ false)
one_name_parts m e = (grind (arith, nat_tests), grind (arith, nat_tests))
