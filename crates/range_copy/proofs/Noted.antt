-- The targets of the rows that did not come to `Done`, row by row.
use Rattle.range_copy.proofs.Prelude.{◌≡◌, ℕ, zero, suc, ◌+◌, Bool, true, false, not, cond, ◌||◌, ◌&&◌, List, [], ◌∷◌, ◌++◌, length, take, Option, Some, None}
use Rattle.range_copy.proofs.Prelude.{refl, ap, ◌∙◌, sym, arith, nat_eq, slice_get, list_any-append, nat_le, Result, Ok, Err, OnOk, list_any, option_map}
use Rattle.range_copy.proofs.Prelude.{pointwise, below_of, grafted, is_within, Fate, is_done, target_of, Pair, AreFailed, failed_at, fitting_target, has_path}
use Rattle.range_copy.proofs.Prelude.{and_false, turn}
use Rattle.range_copy.proofs.Rows.{Row}
use Rattle.range_copy.proofs.Tried.{fits}

or_turn : (a b : Bool) → (a || b) ≡ (b || (a || false))
or_turn true true = refl
or_turn true false = refl
or_turn false true = refl
or_turn false false = refl

or_none : (b : Bool) → (b || (false || false)) ≡ b
or_none true = refl
or_none false = refl

and_on : (b : Bool) → (b && true) ≡ b
and_on true = refl
and_on false = refl

-- one row more
failed_more : (pairs : List Pair) (rows : List Row) (p : List ℕ) (f : Fate) (q : List ℕ) →
    failed_at pairs (rows ++ (p, f) ∷ []) q ≡ (failed_at pairs rows q || ((pointwise nat_eq (target_of pairs p) q && not (is_done f)) || false))
failed_more pairs rows p f q = list_any-append (λ (row : Row). pointwise nat_eq (target_of pairs row.0) q && not (is_done row.1)) rows ((p, f) ∷ [])

pub noted_done : (pairs : List Pair) (rows : List Row) (paths : List (List ℕ)) (p : List ℕ) (f : Fate) → is_done f ≡ true → AreFailed pairs rows paths →
    AreFailed pairs (rows ++ (p, f) ∷ []) paths
noted_done pairs rows paths p f is h q short =
    h q short ∙ sym (failed_more pairs rows p f q
    ∙ ap (λ b. failed_at pairs rows q || ((pointwise nat_eq (target_of pairs p) q && not b) || false)) is
    ∙ ap (λ b. failed_at pairs rows q || (b || false)) (and_false (pointwise nat_eq (target_of pairs p) q)) ∙ or_none (failed_at pairs rows q))

pub noted_more : (pairs : List Pair) (rows : List Row) (paths now : List (List ℕ)) (p t : List ℕ) (f : Fate) → is_done f ≡ false →
    fitting_target pairs p ≡ Some t → ((q : List ℕ) → has_path now q ≡ (pointwise nat_eq q t || has_path paths q)) → AreFailed pairs rows paths →
    AreFailed pairs (rows ++ (p, f) ∷ []) now
noted_more pairs rows paths now p t f off is more h q short =
    let same = (fits pairs p t is).1 in
    more q ∙ ap (λ b. b || has_path paths q) (ap (pointwise nat_eq q) same ∙ turn q (target_of pairs p))
    ∙ ap (λ b. pointwise nat_eq (target_of pairs p) q || b) (h q short)
    ∙ or_turn (pointwise nat_eq (target_of pairs p) q) (failed_at pairs rows q)
    ∙ ap (λ b. failed_at pairs rows q || (b || false)) (sym (and_on (pointwise nat_eq (target_of pairs p) q))
    ∙ ap (λ b. pointwise nat_eq (target_of pairs p) q && not b) (sym off))
    ∙ sym (failed_more pairs rows p f q)

-- a row at its place

row_is : (row : Option Row) (p : List ℕ) (f : Fate) →
    option_map (λ (r : Row). r.0) row ≡ Some p → option_map (λ (r : Row). r.1) row ≡ Some f → row ≡ Some (p, f)
row_is None p f a b = cc
row_is (Some row) p f a b = let first : row.0 ≡ p = cc in let second : row.1 ≡ f = cc in λ i. Some (first i, second i)

taken : (rows : List Row) (k : ℕ) (row : Row) → slice_get rows k ≡ Some row → take (suc k) rows ≡ take k rows ++ row ∷ []
taken [] zero row e = cc
taken [] (suc k) row e = cc
taken (r ∷ rows) zero row e = let same : r ≡ row = cc in ap (λ x. x ∷ []) same
taken (r ∷ rows) (suc k) row e = ap (λ xs. r ∷ xs) (taken rows k row e)

pub row_at : (rows : List Row) (k : ℕ) (p : List ℕ) (f : Fate) → option_map (λ row. row.0) (slice_get rows k) ≡ Some p →
    option_map (λ row. row.1) (slice_get rows k) ≡ Some f → (slice_get rows k ≡ Some (p, f)) × (take (k + 1) rows ≡ take k rows ++ (p, f) ∷ [])
row_at rows k p f a b =
    let is = row_is (slice_get rows k) p f a b in
    let one : k + 1 ≡ suc k = omega arith in
    (is, ap (λ n. take n rows) one ∙ taken rows k (p, f) is)

-- the first pair whose source a path is within

pub first_pair : (pairs : List Pair) (path : List ℕ) (k : ℕ) (pair : Pair) → list_any (λ pair. is_within path pair.source) (take k pairs) ≡ false →
    slice_get pairs k ≡ Some pair → is_within path pair.source ≡ true → target_of pairs path ≡ grafted pair.target (below_of path pair.source)
first_pair [] path zero pair off at h = cc
first_pair [] path (suc k) pair off at h = cc
first_pair (p ∷ pairs) path zero pair off at h =
    let same : p ≡ pair = cc in
    ap (λ (r : Pair). cond (is_within path r.source) (grafted r.target (below_of path r.source)) (target_of pairs path)) same
    ∙ ap (λ b. cond b (grafted pair.target (below_of path pair.source)) (target_of pairs path)) h
first_pair (p ∷ pairs) path (suc k) pair off at h =
    let parts = Rattle.std.proofs.lemmas.Bool.or_parts (is_within path p.source) (list_any (λ (pair : Pair). is_within path pair.source) (take k pairs)) off in
    ap (λ b. cond b (grafted p.target (below_of path p.source)) (target_of pairs path)) parts.0 ∙ first_pair pairs path k pair parts.1 at h

pub first_fits : (pairs : List Pair) (path : List ℕ) (moved : List ℕ) → target_of pairs path ≡ moved →
    cond (nat_le (length moved) 4095) (Some moved) None ≡ fitting_target pairs path
first_fits pairs path moved is = ap (λ t. cond (nat_le (length t) 4095) (Some t) None) (sym is)

-- what follows from a call's success
pub on_ok : {X E : Type 0} (P Q : Type 0) (r : Result X E) → (P → Q) → OnOk r P → OnOk r Q
on_ok P Q (Ok x) h p = h p
on_ok P Q (Err e) h p = tt
