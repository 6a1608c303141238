-- The paths of the files of a checkpoint: each stands in the folder, and no two are the same.
use Rattle.circle_lists.proofs.Prelude.{◌≡◌, ℕ, ◌+◌, ◌<◌, Bool, true, false, cond, eqb, None, List, [], ◌∷◌, ◌++◌, length, refl, ap, sym, ◌∙◌, arith}
use Rattle.circle_lists.proofs.Prelude.{append_assoc, codes, nat_eq, decimal, pointwise, bytes_decides, decimal_injective, append_cancel_left}
use Rattle.circle_lists.proofs.Prelude.{append_cancel_right, refusal, joined, parent_of, joined_length, parent_joined, file_name, file_path}
use Rattle.circle_lists.proofs.Names.{name_bare}

-- ---- the folder of a file

pub parent_of_file : (dir : List ℕ) (rank : ℕ) → refusal dir ≡ None → rank < 64 → parent_of (file_path dir rank) ≡ dir
parent_of_file dir rank fine few = parent_joined dir (file_name rank) fine (name_bare rank few)

-- ---- which paths differ

pub differ : (p q : List ℕ) → (p ≡ q → ⊥) → pointwise nat_eq p q ≡ false
differ p q off = by_test (pointwise nat_eq p q) refl
  where
    by_test : (t : Bool) → pointwise nat_eq p q ≡ t → t ≡ false
    by_test true is = absurd (off ((bytes_decides p q).0 is))
    by_test false is = refl

pub folder_differs : (dir : List ℕ) (rank : ℕ) → pointwise nat_eq dir (file_path dir rank) ≡ false
folder_differs dir rank = differ dir (file_path dir rank) (λ same. longer (eqb (length dir) 1) (ap length same ∙ joined_length dir (file_name rank)))
  where
    longer : (t : Bool) → length dir ≡ cond t (length dir + length (file_name rank)) (length dir + (length (file_name rank) + 1)) → ⊥
    longer true e = absurd (omega arith)
    longer false e = absurd (omega arith)

pub same_name : (dir m n : List ℕ) → joined dir m ≡ joined dir n → m ≡ n
same_name dir m n = by_root (eqb (length dir) 1)
  where
    by_root : (t : Bool) → cond t (dir ++ m) (dir ++ 47 ∷ m) ≡ cond t (dir ++ n) (dir ++ 47 ∷ n) → m ≡ n
    by_root true e = append_cancel_left dir m n e
    by_root false e = append_cancel_left (dir ++ 47 ∷ []) m n (append_assoc dir (47 ∷ []) m ∙ e ∙ sym (append_assoc dir (47 ∷ []) n))

same_rank : (dir : List ℕ) (i j : ℕ) → i < 64 → j < 64 → file_path dir i ≡ file_path dir j → i ≡ j
same_rank dir i j few less e =
    let names : file_name i ≡ file_name j = same_name dir (file_name i) (file_name j) e in
    let digits : decimal i ≡ decimal j =
    append_cancel_right (decimal i) (decimal j) (codes ".txt") (append_cancel_left (codes "circle") _ _ names) in
    decimal_injective i j (omega (arith, few)) (omega (arith, less)) digits

pub files_differ : (dir : List ℕ) (i j : ℕ) → i < j → j < 64 → pointwise nat_eq (file_path dir i) (file_path dir j) ≡ false
files_differ dir i j lt few =
    differ (file_path dir i) (file_path dir j) (λ same. let is = same_rank dir i j (omega (arith, lt, few)) few same in absurd (omega (arith, is, lt)))

pub later_differs : (dir : List ℕ) (i j : ℕ) → i < j → j < 64 → pointwise nat_eq (file_path dir j) (file_path dir i) ≡ false
later_differs dir i j lt few =
    differ (file_path dir j) (file_path dir i) (λ same. let is = same_rank dir j i few (omega (arith, lt, few)) same in absurd (omega (arith, is, lt)))
