-- How the pieces of a pattern follow one another, and the members of a bracket.
use Rattle.find_tests.proofs.Prelude.{◌≡◌, ℕ, zero, suc, ◌≤◌, true, false, cond, List, [], ◌∷◌, ◌++◌, append_assoc, append-nil, length, refl, sym, ap, ◌∙◌}
use Rattle.find_tests.proofs.Prelude.{arith, Sign, Piece, is_sign, behind_close, behind_negation, behind_members, is_bracket, piece_at, behind_piece}
use Rattle.find_tests.proofs.Prelude.{pieces_up_to}
use Rattle.find_tests.specs.Glob.{pieces_of}

length-behind_close : (signs : List Sign) → length (behind_close signs) ≤ length signs
length-behind_close [] = omega arith
length-behind_close (s ∷ rest) =
    let later = length-behind_close rest in
    elim (is_sign 93 s) as (λ b. length (cond b rest (behind_close rest)) ≤ length (s ∷ rest)) [ true ↦ omega arith | false ↦ omega arith ]

length-behind_negation : (signs : List Sign) → length (behind_negation signs) ≤ length signs
length-behind_negation [] = omega arith
length-behind_negation (s ∷ rest) =
    elim (is_sign 33 s) as (λ b. length (cond b rest (s ∷ rest)) ≤ length (s ∷ rest)) [ true ↦ omega arith | false ↦ omega arith ]

length-behind_members : (signs : List Sign) → length (behind_members signs) ≤ length signs
length-behind_members [] = omega arith
length-behind_members (s ∷ rest) = let later = length-behind_close rest in omega arith

pub length-behind_piece : (s : Sign) (rest : List Sign) → length (behind_piece s rest) ≤ length rest
length-behind_piece s rest =
    let a = length-behind_negation rest in
    let b = length-behind_members (behind_negation rest) in
    elim (is_bracket s rest) as (λ b. length (cond b (behind_members (behind_negation rest)) rest) ≤ length rest) [ true ↦ omega arith | false ↦ omega arith ]

-- more levels than signs change nothing
enough : (n m : ℕ) (signs : List Sign) → length signs ≤ n → length signs ≤ m → pieces_up_to n signs ≡ pieces_up_to m signs
enough n m [] h k = refl
enough zero m (s ∷ rest) h k = absurd (omega arith)
enough (suc n) zero (s ∷ rest) h k = absurd (omega arith)
enough (suc n) (suc m) (s ∷ rest) h k =
    let shorter = length-behind_piece s rest in
    ap (λ pieces. piece_at s rest ∷ pieces) (enough n m (behind_piece s rest) (omega arith) (omega arith))

pub pieces_of-nil : pieces_of [] ≡ []
unfolding pieces_of
pieces_of-nil = refl

pub pieces_of-cons : (s : Sign) (rest : List Sign) → pieces_of (s ∷ rest) ≡ piece_at s rest ∷ pieces_of (behind_piece s rest)
unfolding pieces_of
pieces_of-cons s rest =
    ap (λ pieces. piece_at s rest ∷ pieces)
    (enough (length rest) (length (behind_piece s rest)) (behind_piece s rest) (length-behind_piece s rest) (omega arith))

-- one piece more is read
pub pieces_step : (before after : List Piece) (all : List Piece) (piece : Piece) (s : Sign) (old signs new : List Sign) → before ++ pieces_of old ≡ all →
    old ≡ s ∷ signs → piece ≡ piece_at s signs → new ≡ behind_piece s signs → after ≡ before ++ piece ∷ [] → after ++ pieces_of new ≡ all
pieces_step before after all piece s old signs new so_far here is_piece is_new pushed =
    let step = pieces_of-cons s signs in
    let next : piece ∷ pieces_of new ≡ pieces_of old = cc in
    ap (λ ps. ps ++ pieces_of new) pushed ∙ append_assoc before (piece ∷ []) (pieces_of new) ∙ ap (λ ps. before ++ ps) next ∙ so_far

pub pieces_end : (before all : List Piece) (old : List Sign) → before ++ pieces_of old ≡ all → old ≡ [] → before ≡ all
pieces_end before all old so_far none = sym (append-nil before) ∙ ap (λ ps. before ++ ps) (sym pieces_of-nil ∙ ap pieces_of (sym none)) ∙ so_far
