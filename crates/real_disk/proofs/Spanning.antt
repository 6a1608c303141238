-- Spans made of cuts.
use Rattle.real_disk.proofs.Prelude.{◌≡◌, ℕ, true, List, [], ◌∷◌, map, refl, ap, ◌∙◌, arith, Some, None, is_some, All, Option, OnErr, Result, Ok, Err}
use Rattle.real_disk.proofs.Prelude.{option_map, All-cons, Cut, Piece, pieces, zeros_of, Seen, blank, count_of, piece_of, untold}

-- the pieces, the bytes and the counts of new spans

pub blank_pieces : (ps : List Piece) → map piece_of (map blank ps) ≡ ps
blank_pieces [] = refl
blank_pieces (p ∷ ps) = ap (λ r. p ∷ r) (blank_pieces ps)

pub blank_holds : (ps : List Piece) → map untold (map blank ps) ≡ map (zeros_of None) ps
blank_holds [] = refl
blank_holds (p ∷ ps) = ap (λ r. None ∷ r) (blank_holds ps)

pub blank_zero : (ps : List Piece) → All (λ span. count_of span ≡ 0) (map blank ps)
blank_zero [] = λ k d l. absurd (omega (arith, l))
blank_zero (p ∷ ps) = All-cons (λ span. count_of span ≡ 0) (blank p) (map blank ps) refl (blank_zero ps)

-- a file that has cuts is lent
pub is_out : (path : List ℕ) (cuts : Option (List ℕ)) (ps : List Piece) → option_map (pieces path) cuts ≡ Some ps → is_some cuts ≡ true
is_out path None ps e = cc
is_out path (Some cuts) ps e = refl

pub on_err : {A B : Type 0} (X : Type 0) (result : Result A B) → X → OnErr result X
on_err X (Ok a) x = tt
on_err X (Err e) x = x

abbrev pub seen_of : ℕ → List (List (List ℕ)) → List Cut → Seen
seen_of count lent cut = record { count = count; lent = lent; cut = cut }

pub seen_same : (a b : ℕ) (lent : List (List (List ℕ))) (x y : List Cut) → a ≡ b → x ≡ y → seen_of a lent x ≡ seen_of b lent y
seen_same a b lent x y count cut = ap (λ n. seen_of n lent x) count ∙ ap (λ c. seen_of b lent c) cut
