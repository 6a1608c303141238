-- A list is parted entry by entry, and the rows of its parts are merged row by row.
use Rattle.range_copy.proofs.Prelude.{◌≡◌, ℕ, ◌≤◌, false, not, ◌&&◌, List, [], ◌++◌, length, drop, Option, Some, None, refl, ap, ◌∙◌, sym, subst, append-nil}
use Rattle.range_copy.proofs.Prelude.{drop_of_length-le, Entry, ArePartsOf, exceeds, has_under, held_of, is_large, is_over, large_of, marks_of, small_of, Parts}

-- whether an entry is large

pub small_less : (piece : ℕ) (e : Entry) (rest : List Entry) → exceeds piece e ≡ false → is_large piece e rest ≡ false
small_less piece e rest h = ap (λ b. b && not (has_under e rest)) h

-- the one that was held back

pub none_over : (held : Option Entry) → false ≡ is_over held []
none_over None = refl
none_over (Some e) = refl

-- before the first entry, and behind the last one

pub at_last : (piece : ℕ) (parts : Parts) (held : Option Entry) (k : ℕ) (list : List Entry) → length list ≤ k →
    ArePartsOf piece parts (held_of held ++ drop k list) list → ArePartsOf piece parts (held_of held ++ []) list
at_last piece parts held k list l a = subst (λ xs. ArePartsOf piece parts (held_of held ++ xs) list) (drop_of_length-le list l) a

pub whole : (piece : ℕ) (parts : Parts) (list : List Entry) → ArePartsOf piece parts [] list →
    (parts.small ≡ small_of piece list) × (parts.large.items ≡ large_of piece list) × (parts.marks.items ≡ marks_of piece list)
whole piece parts list a =
    (sym (append-nil parts.small) ∙ a.small, sym (append-nil parts.large.items) ∙ a.large, sym (append-nil parts.marks.items) ∙ a.marks)
