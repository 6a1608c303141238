-- Bytes that a sink takes one after another, where it fails before the last.
use Rattle.tool_text.proofs.Prelude.{◌≡◌, ℕ, ◌+◌, List, ◌++◌, length, take, Option, Some, None, IfSome, ap, ◌∙◌, sym, subst, arith, append_assoc, length-append}
use Rattle.tool_text.proofs.Prelude.{take-append-le, take-append-add, GrewByPrefix}

abbrev pub PutPart : Option (List ℕ) → Option (List ℕ) → List ℕ → Type 0
PutPart was next bytes = IfSome was (λ old. IfSome next (GrewByPrefix bytes old))

-- a part of some bytes is a part of more
pub part_of_more : (was next : Option (List ℕ)) (bytes more whole : List ℕ) → bytes ++ more ≡ whole → PutPart was next bytes → PutPart was next whole
part_of_more None next bytes more whole is p = tt
part_of_more (Some old) None bytes more whole is p = tt
part_of_more (Some old) (Some new) bytes more whole is p = subst (λ xs. GrewByPrefix xs old new) is (
  p.0,
  omega (arith, length-append bytes more, p.1),
  p.2 ∙ ap (λ r. old ++ r) (sym (take-append-le p.0 bytes more p.1)),
)

grew_behind : (old front bytes new : List ℕ) → GrewByPrefix bytes (old ++ front) new → GrewByPrefix (front ++ bytes) old new
grew_behind old front bytes new p = (
  length front + p.0,
  omega (arith, length-append front bytes, p.1),
  p.2 ∙ append_assoc old front (take p.0 bytes) ∙ ap (λ r. old ++ r) (sym (take-append-add front bytes p.0)),
)

-- all of the first bytes, and then a part of the others
pub part_behind : (was now next : Option (List ℕ)) (front bytes : List ℕ) → IfSome was (λ old. now ≡ Some (old ++ front)) →
    PutPart now next bytes → PutPart was next (front ++ bytes)
part_behind None now next front bytes p q = tt
part_behind (Some old) now None front bytes p q = tt
part_behind (Some old) now (Some new) front bytes p q = grew_behind old front bytes new (subst (λ o. IfSome o (λ old. GrewByPrefix bytes old new)) p q)
