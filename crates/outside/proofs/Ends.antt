-- The names in one text: how many they are, the one at a place, and one more.
use Rattle.outside.proofs.Prelude.{◌≡◌, ℕ, ◌-◌, ◌<◌, ◌≤◌, List, [], ◌∷◌, ◌++◌, length, Some, zero, suc, arith, refl, sym, ap, ◌∙◌, subst, slice_index}
use Rattle.outside.proofs.Prelude.{slice_range, IsUtf8, IsCharBoundary, drop-append-le, take-append-le, length-append, length-drop, take_all}
use Rattle.outside.proofs.Prelude.{get_or_append_left, drop-append_seam, IsCharBoundary-end, IsCharBoundary-at_seam, names_from, AreEndsFrom}
use Rattle.std.specs.Prelude.{slice_get, take, drop}

pub names_len : (start : ℕ) (text ends : List ℕ) → length (names_from start text ends) ≡ length ends
names_len start text [] = refl
names_len start text (end ∷ ends) = ap suc (names_len end text ends)

-- a place among the names has an end
pub has_end : (text ends : List ℕ) (value : List (List ℕ) × ℕ × ℕ) (k : ℕ) → names_from 0 text ends ≡ value.0 → k < length value.0 → k < length ends
has_end text ends value k e h = omega (arith, names_len 0 text ends, ap length e, h)

-- the name at a place is the text from the end before it up to its own
pub name_is : (start : ℕ) (text ends : List ℕ) (k : ℕ) → k < length ends →
    slice_get (names_from start text ends) k ≡ Some (slice_range text (slice_index (start ∷ ends) k) (slice_index ends k))
name_is start text [] k h = absurd (omega arith)
name_is start text (end ∷ ends) zero h = refl
name_is start text (end ∷ ends) (suc k) h = name_is end text ends k (omega arith)

-- a name may be cut out
pub record IsCut (text : List ℕ) (start end : ℕ) : Type 0 where
  pub ascend : start ≤ end
  pub first : 0 < start → IsCharBoundary text start
  pub last : IsCharBoundary text end

cut_from : (start : ℕ) (text ends : List ℕ) (k : ℕ) → (0 < start → IsCharBoundary text start) → AreEndsFrom start text ends → k < length ends →
    IsCut text (slice_index (start ∷ ends) k) (slice_index ends k)
cut_from start text [] k f a h = absurd (omega arith)
cut_from start text (end ∷ ends) zero f a h = record { ascend = a.0; first = f; last = a.1 }
cut_from start text (end ∷ ends) (suc k) f a h = cut_from end text ends k (λ _. a.1) a.2 (omega arith)

pub cut_at : (text ends : List ℕ) (k : ℕ) → AreEndsFrom 0 text ends → k < length ends → IsCut text (slice_index (0 ∷ ends) k) (slice_index ends k)
cut_at text ends k a h = cut_from 0 text ends k (λ z. absurd (omega arith)) a h

-- what stands in the text stays where more follows
same_range : (text name : List ℕ) (start end : ℕ) → start ≤ length text → end ≤ length text →
    slice_range (text ++ name) start end ≡ slice_range text start end
same_range text name start end s e =
    ap (take (end - start)) (drop-append-le start text name s) ∙ take-append-le (end - start) (drop start text) name (omega (arith, length-drop start text))

last_range : (text name : List ℕ) → slice_range (text ++ name) (length text) (length (text ++ name)) ≡ name
last_range text name =
    ap (take (length (text ++ name) - length text)) (drop-append_seam text name) ∙ take_all _ name (omega (arith, length-append text name))

-- one more name behind the others
pub names_push : (start : ℕ) (text ends name : List ℕ) → AreEndsFrom start text ends →
    names_from start (text ++ name) (ends ++ length (text ++ name) ∷ []) ≡ names_from start text ends ++ name ∷ []
names_push start text [] name a = ap (λ r. r ∷ []) (subst (λ s. slice_range (text ++ name) s (length (text ++ name)) ≡ name) (sym a) (last_range text name))
names_push start text (end ∷ ends) name a =
    ap (λ r. r ∷ names_from end (text ++ name) (ends ++ length (text ++ name) ∷ [])) (same_range text name start end (omega (arith, a.0, a.1.0)) a.1.0)
    ∙ ap (λ names. slice_range text start end ∷ names) (names_push end text ends name a.2)

same_boundary : (text name : List ℕ) (end : ℕ) → IsUtf8 name → IsCharBoundary text end → IsCharBoundary (text ++ name) end
same_boundary text name end u b = grind (arith, get_or_append_left, IsCharBoundary-at_seam (text ++ name) text name refl u)

pub ends_push : (start : ℕ) (text ends name : List ℕ) → IsUtf8 name → AreEndsFrom start text ends →
    AreEndsFrom start (text ++ name) (ends ++ length (text ++ name) ∷ [])
ends_push start text [] name u a = (omega (arith, a, length-append text name), IsCharBoundary-end (text ++ name), refl)
ends_push start text (end ∷ ends) name u a = (a.0, same_boundary text name end u a.1, ends_push end text ends name u a.2)
