-- What is given of rows that ascend, and what is joined of entries that have their shapes.
use Rattle.compare_report.proofs.Prelude.{◌≡◌, ⊎_elim, ℕ, ◌+◌, Bool, true, false, List, [], ◌∷◌, ◌++◌, map, filter, take, cond, Some, refl, sym, ap, ◌∙◌}
use Rattle.compare_report.proofs.Prelude.{add-one, slice_get, Result, Ok, Err, IfOk, All, AllByRecursion, AllZip, Less, take-suc, map-append, All-append}
use Rattle.compare_report.proofs.Prelude.{All-filter, filter-append, slice_get_cases, All-permutation, path_cmp, Entry, Condition, Row, is_given, given_paths}
use Rattle.compare_report.proofs.Prelude.{is_new, IsJoined, some_same, none_some}
use Rattle.std.specs.List.Sorted.{IsStrictlySortedBy}

taken_by : (rows : List Row) (k : ℕ) (row : Row) → slice_get rows k ≡ Some row → take (k + 1) rows ≡ take k rows ++ row ∷ []
taken_by rows k row at =
    ⊎_elim (λ w.
    let same : w.0 ≡ row = some_same w.0 row (sym w.2 ∙ at) in
    ap (λ n. take n rows) (add-one k) ∙ take-suc rows k w.0 w.1 ∙ ap (λ r. take k rows ++ r ∷ []) (w.3 ∙ same))
    (λ w. absurd (none_some row (sym w.1 ∙ at))) (slice_get_cases rows k).1

abbrev row_paths : List Row → List (List ℕ)
row_paths rows = map (λ row. row.path) rows

less_kept : (x : List ℕ) (p : Row → Bool) (rows : List Row) → AllByRecursion (λ z. path_cmp x z ≡ Less) (row_paths rows) →
    AllByRecursion (λ z. path_cmp x z ≡ Less) (row_paths (filter p rows))
less_kept x p [] h = tt
less_kept x p (row ∷ rows) h = elim (p row) as (λ b. AllByRecursion (λ z. path_cmp x z ≡ Less) (row_paths (cond b (row ∷ filter p rows) (filter p rows)))) [
  | true ↦ (h.0, less_kept x p rows h.1)
  | false ↦ less_kept x p rows h.1
]

rows_kept : (p : Row → Bool) (rows : List Row) → IsStrictlySortedBy path_cmp (row_paths rows) → IsStrictlySortedBy path_cmp (row_paths (filter p rows))
unfolding IsStrictlySortedBy
rows_kept p [] s = tt
rows_kept p (row ∷ rows) s = elim (p row) as (λ b. IsStrictlySortedBy path_cmp (row_paths (cond b (row ∷ filter p rows) (filter p rows)))) [
  | true ↦ (less_kept row.path p rows s.0, rows_kept p rows s.1)
  | false ↦ rows_kept p rows s.1
]

pub given_ascend : (expr : List (List Condition)) (dest : Bool) (rows : List Row) → IsStrictlySortedBy path_cmp (row_paths rows) →
    IsStrictlySortedBy path_cmp (given_paths expr dest rows)
given_ascend expr dest rows s = rows_kept (is_given expr dest) rows s

-- what is given of one row more
pub given_more : (expr : List (List Condition)) (dest : Bool) (rows : List Row) (k : ℕ) (row : Row) (was now : List (List ℕ)) → slice_get rows k ≡ Some row →
    was ≡ given_paths expr dest (take k rows) → now ≡ was ++ cond (is_given expr dest row) (row.path ∷ []) [] → now ≡ given_paths expr dest (take (k + 1) rows)
given_more expr dest rows k row was now at so_far more =
    let taken : take (k + 1) rows ≡ take k rows ++ row ∷ [] = taken_by rows k row at in
    more ∙ (λ i. so_far i ++ cond (is_given expr dest row) (row.path ∷ []) []) ∙
    (λ i. given_paths expr dest (take k rows) ++ one_given (is_given expr dest row) i)
    ∙ sym (ap (λ rs. row_paths rs) (filter-append (is_given expr dest) (take k rows) (row ∷ []))
    ∙ map-append (λ (r : Row). r.path) (filter (is_given expr dest) (take k rows)) (filter (is_given expr dest) (row ∷ [])))
    ∙ ap (given_paths expr dest) (sym taken)
  where
    one_given : (b : Bool) → cond b (row.path ∷ []) [] ≡ row_paths (cond b (row ∷ []) [])
    one_given true = refl
    one_given false = refl

pub joined_all : (P : Entry → Type 0) (p q : Entry → Bool) (left right list : List Entry) → IsJoined (filter p left) (filter q right) list → All P left →
    All P right → All P list
joined_all P p q left right list j h g =
    All-permutation P (filter p left ++ filter (is_new (filter p left)) (filter q right)) list j.all
    (All-append P (filter p left) (filter (is_new (filter p left)) (filter q right)) (All-filter p P left h)
    (All-filter (is_new (filter p left)) P (filter q right) (All-filter q P right g)))

-- one more pair
pub zip_more : {A B : Type 0} (R : A → B → Type 0) (xs : List A) (ys : List B) (x : A) (y : B) → AllZip R xs ys → R x y → AllZip R (xs ++ x ∷ []) (ys ++ y ∷ [])
zip_more R [] [] x y h r = (r, tt)
zip_more R [] (b ∷ ys) x y h r = absurd h
zip_more R (a ∷ xs) [] x y h r = absurd h
zip_more R (a ∷ xs) (b ∷ ys) x y h r = (h.0, zip_more R xs ys x y h.1 r)

-- what is so of a list that was joined
pub if_joined : {E : Type 0} (r : Result (List Entry) E) (P : Entry → Type 0) (p q : Entry → Bool) (left right : List Entry) →
    IfOk r (IsJoined (filter p left) (filter q right)) →
    All P left → All P right → IfOk r (All P)
if_joined (Ok list) P p q left right j h g = joined_all P p q left right list j h g
if_joined (Err e) P p q left right j h g = tt
