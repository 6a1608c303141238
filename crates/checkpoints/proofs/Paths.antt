-- The paths of a checkpoint's files: that of the list file stands in the folder, and is none of the ranks'.
use Rattle.checkpoints.proofs.Prelude.{◌≡◌, ℕ, ◌+◌, ◌<◌, ◌≤◌, ◌^◌, zero, suc, Bool, true, false, cond, eqb, None, List, [], ◌∷◌, ◌++◌, length, get_or, refl, ap}
use Rattle.checkpoints.proofs.Prelude.{sym, ◌∙◌, arith, codes, nat_eq, decimal, pointwise, decimal_digit, decimal_nonempty, first_decimal, append_cancel_left}
use Rattle.checkpoints.proofs.Prelude.{get_or_append_left, refusal, is_name, parent_of, is_root, joined_length, file_name, file_path, parent_joined, differ}
use Rattle.checkpoints.proofs.Prelude.{same_name, list_path}
use Rattle.std.specs.Bool.{IsTrue}

pub name_fine : IsTrue (is_name (codes "circle.list"))
name_fine = refl

-- ---- the list file's is none of the ranks'

first_digit : (n : ℕ) → n < 2 ^ 64 → 48 ≤ get_or (decimal n) 0 0
first_digit zero l = omega (arith, ap (λ ds. get_or ds 0 0) (decimal_digit 0 (omega arith)))
first_digit (suc n) l = let first = first_decimal (suc n) (omega arith) l in omega (arith, first)

names_differ : (rank : ℕ) → rank < 64 → codes "circle.list" ≡ file_name rank → ⊥
names_differ rank few same =
    let small : rank < 2 ^ 64 = omega (arith, few) in
    let ends : codes ".list" ≡ decimal rank ++ codes ".txt" = append_cancel_left (codes "circle") _ _ same in
    let firsts : 46 ≡ get_or (decimal rank ++ codes ".txt") 0 0 = ap (λ bytes. get_or bytes 0 0) ends in
    let first = get_or_append_left (decimal rank) (codes ".txt") 0 0 (decimal_nonempty rank small) in
    absurd (omega (arith, firsts, first, first_digit rank small))

pub list_differs : (dir : List ℕ) (rank : ℕ) → rank < 64 → pointwise nat_eq (list_path dir) (file_path dir rank) ≡ false
list_differs dir rank few =
    differ (list_path dir) (file_path dir rank) (λ same. names_differ rank few (same_name dir (codes "circle.list") (file_name rank) same))

pub file_differs : (dir : List ℕ) (rank : ℕ) → rank < 64 → pointwise nat_eq (file_path dir rank) (list_path dir) ≡ false
file_differs dir rank few =
    differ (file_path dir rank) (list_path dir) (λ same. names_differ rank few (sym (same_name dir (file_name rank) (codes "circle.list") same)))

-- ---- it stands in the folder

pub parent_of_list : (dir : List ℕ) → refusal dir ≡ None → parent_of (list_path dir) ≡ dir
parent_of_list dir fine = parent_joined dir (codes "circle.list") fine refl

-- which is another path, and is not the root
pub dir_differs : (dir : List ℕ) → pointwise nat_eq dir (list_path dir) ≡ false
dir_differs dir = differ dir (list_path dir) (λ same. longer (eqb (length dir) 1) (ap length same ∙ joined_length dir (codes "circle.list")))
  where
    longer : (t : Bool) → length dir ≡ cond t (length dir + 11) (length dir + 12) → ⊥
    longer true e = absurd (omega arith)
    longer false e = absurd (omega arith)

pub list_below : (dir : List ℕ) → is_root (list_path dir) ≡ false
list_below dir =
    differ (list_path dir) (47 ∷ []) (λ same. longer (eqb (length dir) 1) (joined_length dir (codes "circle.list")) (ap length same))
  where
    longer : (t : Bool) → length (list_path dir) ≡ cond t (length dir + 11) (length dir + 12) → length (list_path dir) ≡ 1 → ⊥
    longer true e one = absurd (omega (arith, e, one))
    longer false e one = absurd (omega (arith, e, one))
