-- Spans made of cuts, and joined again.
use Rattle.files_mem.proofs.Prelude.{◌≡◌, ℕ, cond, ◌+◌, ◌≤◌, ◌<◌, Bool, true, false, List, [], ◌∷◌, ◌++◌, length, map, take, get_or, refl, ap, ◌∙◌, sym, subst}
use Rattle.files_mem.proofs.Prelude.{arith, append_assoc, append-nil, false≢true, length-append, length-replicate, take_more, sum_by-cons, sum_by_more_le}
use Rattle.files_mem.proofs.Prelude.{sum_by, All-cons, All-tail, Result, Ok, Err, IfOk, All, replicate, Files, Piece, zeros_of, told_bytes, joined_bytes}
use Rattle.files_mem.proofs.Prelude.{Spanned, piece_of, held_by, blank, bytes_of_all}
use Rattle.std.specs.Prelude.{Some, None, is_some}

length_all : (spans : List Spanned) → length (bytes_of_all spans) ≡ sum_by (λ span. length span.bytes) spans
length_all [] = refl
length_all (span ∷ spans) =
    length-append span.bytes (bytes_of_all spans) ∙ ap (λ n. length span.bytes + n) (length_all spans)
    ∙ sym (sum_by-cons (λ (s : Spanned). length s.bytes) span spans)

push_all : (spans : List Spanned) (y : Spanned) → bytes_of_all (spans ++ y ∷ []) ≡ bytes_of_all spans ++ y.bytes
push_all [] y = append-nil y.bytes
push_all (span ∷ spans) y = ap (λ r. span.bytes ++ r) (push_all spans y) ∙ sym (append_assoc span.bytes (bytes_of_all spans) y.bytes)

-- one span more
pub joined_on : (spans : List Spanned) (i : ℕ) (d : Spanned) → i < length spans
    → bytes_of_all (take (i + 1) spans) ≡ bytes_of_all (take i spans) ++ (get_or spans i d).bytes
joined_on spans i d l = ap bytes_of_all (take_more spans i d l) ∙ push_all (take i spans) (get_or spans i d)

-- there is room for it
pub room_left : (spans : List Spanned) (i : ℕ) (d : Spanned) (room : List ℕ) (most : ℕ) → i < length spans → room ≡ bytes_of_all (take i spans)
    → sum_by (λ span. length span.bytes) spans ≤ most → length room + length (get_or spans i d).bytes ≤ most
room_left spans i d room most l e m =
    omega (arith, ap length e, length_all (take i spans), sum_by_more_le (λ span. length span.bytes) spans i d l, m)

-- what new spans show, hold and count

pub blank_pieces : (tells fails : Bool) (ps : List Piece) → map piece_of (map (blank tells fails) ps) ≡ ps
blank_pieces tells fails [] = refl
blank_pieces tells fails (p ∷ ps) =
    ap (λ n. record { path = p.path; start = p.start; size = n } ∷ map piece_of (map (blank tells fails) ps)) (length-replicate p.size 0)
    ∙ ap (λ r. p ∷ r) (blank_pieces tells fails ps)

pub blank_holds : (files : Files) (fails : Bool) (ps : List Piece) → map held_by (map (blank true fails) ps) ≡ map (zeros_of (Some files)) ps
blank_holds files fails [] = refl
blank_holds files fails (p ∷ ps) = ap (λ r. Some (replicate p.size 0) ∷ r) (blank_holds files fails ps)

pub blank_hides : (fails : Bool) (ps : List Piece) → map held_by (map (blank false fails) ps) ≡ map (zeros_of None) ps
blank_hides fails [] = refl
blank_hides fails (p ∷ ps) = ap (λ r. None ∷ r) (blank_hides fails ps)

pub blank_zero : (tells fails : Bool) (ps : List Piece) → All (λ (s : Spanned). s.count ≡ 0) (map (blank tells fails) ps)
blank_zero tells fails [] = λ k d l. absurd (omega (arith, l))
blank_zero tells fails (p ∷ ps) = All-cons (λ (s : Spanned). s.count ≡ 0) (blank tells fails p) (map (blank tells fails) ps) refl (blank_zero tells fails ps)

-- the bytes of spans are as many as their pieces have
pub sizes : (spans : List Spanned) → sum_by (λ (p : Piece). p.size) (map piece_of spans) ≡ sum_by (λ (s : Spanned). length s.bytes) spans
sizes [] = refl
sizes (span ∷ spans) =
    sum_by-cons (λ (p : Piece). p.size) (piece_of span) (map piece_of spans) ∙ ap (λ n. length span.bytes + n) (sizes spans)
    ∙ sym (sum_by-cons (λ (s : Spanned). length s.bytes) span spans)

-- what spans tell that tell their bytes
pub told_all : (spans : List Spanned) → All (λ (s : Spanned). is_some (held_by s) ≡ true) spans → joined_bytes (map held_by spans) ≡ bytes_of_all spans
told_all [] a = refl
told_all (span ∷ spans) a =
    let rest = told_all spans (All-tail (λ (s : Spanned). is_some (held_by s) ≡ true) span spans a) in
    told span.tells (a 0 span (omega arith)) ∙ ap (λ r. span.bytes ++ r) rest
  where
    told : (b : Bool) → is_some (cond b (Some span.bytes) None) ≡ true →
        told_bytes (cond b (Some span.bytes) None) ++ joined_bytes (map held_by spans) ≡ span.bytes ++ joined_bytes (map held_by spans)
    told true e = refl
    told false e = absurd (false≢true e)

-- what a lease answers, by the spans that it makes

pub lent_pieces : {V E : Type 0} (items : V → List Spanned) (r : Result V E) (tells fails : Bool) (ps : List Piece)
    → IfOk r (λ v. items v ≡ map (blank tells fails) ps) → IfOk r (λ v. map piece_of (items v) ≡ ps)
lent_pieces items (Ok v) tells fails ps e = ap (map piece_of) e ∙ blank_pieces tells fails ps
lent_pieces items (Err e) tells fails ps is = tt

pub lent_zeros : {V E : Type 0} (items : V → List Spanned) (r : Result V E) (files : Files) (fails : Bool) (ps : List Piece)
    → IfOk r (λ v. items v ≡ map (blank true fails) ps) → IfOk r (λ v. map held_by (items v) ≡ map (zeros_of (Some files)) ps)
lent_zeros items (Ok v) files fails ps e = ap (map held_by) e ∙ blank_holds files fails ps
lent_zeros items (Err e) files fails ps is = tt

pub lent_uncounted : {V E : Type 0} (items : V → List Spanned) (r : Result V E) (tells fails : Bool) (ps : List Piece)
    → IfOk r (λ v. items v ≡ map (blank tells fails) ps) → IfOk r (λ v. All (λ (s : Spanned). s.count ≡ 0) (items v))
lent_uncounted items (Ok v) tells fails ps e = subst (All (λ (s : Spanned). s.count ≡ 0)) (sym e) (blank_zero tells fails ps)
lent_uncounted items (Err e) tells fails ps is = tt
