-- Readers go from one list's end to another's.
use Rattle.shared_reads.proofs.Prelude.{◌≡◌, ℕ, List, [], ◌∷◌, ◌++◌, map, length, take, drop, append_assoc, append-nil, ap, ◌∙◌, sym, arith, All, reverse}
use Rattle.shared_reads.proofs.Prelude.{AllByRecursion, recursion_from_All, All-from_recursion, map-append, reverse-append, nil_from_length, length-drop}
use Rattle.shared_reads.proofs.Prelude.{take_all}

-- what the last one of some has goes to the end of a list
pub moved : {X Y : Type 0} (part : X → Y) (list : List Y) (rest : List X) (x : X) →
    (list ++ part x ∷ []) ++ reverse (map part rest) ≡ list ++ reverse (map part (rest ++ x ∷ []))
moved part list rest x =
    append_assoc list (part x ∷ []) (reverse (map part rest))
    ∙ ap (λ ys. list ++ ys) (sym (ap reverse (map-append part rest (x ∷ [])) ∙ reverse-append (map part rest) (part x ∷ [])))

front_of : {A : Type 0} (P : A → Type 0) (xs : List A) (x : A) → AllByRecursion P (xs ++ x ∷ []) → AllByRecursion P xs × P x
front_of P [] x h = (tt, h.0)
front_of P (y ∷ xs) x h = let r = front_of P xs x h.1 in ((h.0, r.0), r.1)

pub unpushed : {A : Type 0} (P : A → Type 0) (xs : List A) (x : A) → All P (xs ++ x ∷ []) → All P xs × P x
unpushed P xs x h = let r = front_of P xs x (recursion_from_All P (xs ++ x ∷ []) h) in (All-from_recursion P xs r.0, r.1)

-- a part of a list that was written back whole
pub written : {A : Type 0} (n : ℕ) (new old : List A) → length new ≡ n → length old ≡ n → take n (new ++ drop (length new) old) ≡ new
written n new old h k =
    let none : drop (length new) old ≡ [] = nil_from_length (drop (length new) old) (omega (arith, length-drop (length new) old)) in
    ap (λ xs. take n (new ++ xs)) none ∙ ap (take n) (append-nil new) ∙ take_all n new (omega arith)
