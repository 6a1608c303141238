-- Sums and tests over neighbouring numbers.
use Rattle.sum_tree.proofs.Prelude.{◌≡◌, ℕ, zero, suc, ◌+◌, ◌*◌, ◌<◌, ◌≤◌, refl, sym, subst, ap, ◌∙◌, arith, add-zero, zero-add, suc-add, Bool, true, ◌&&◌}
use Rattle.sum_tree.proofs.Prelude.{List, map, [], ◌∷◌, ◌++◌, sum_by, range_with_len, list_all, dite, ℕ_discrete, sum_by-cons, sum_by-append}
use Rattle.std.proofs.Common.{suc-mul}
use Rattle.path_text.proofs.Told.{both}

-- what holds of the numbers of a range
abbrev pub Within : ℕ → ℕ → (ℕ → Type 0) → Type 0
Within a k P = (c : ℕ) → a ≤ c → c < a + k → P c

rest_of : (a k : ℕ) (P : ℕ → Type 0) → Within a (suc k) P → Within (a + 1) k P
rest_of a k P all c low high = all c (omega arith) (omega arith)

pub same_sums : (f g : ℕ → ℕ) (a k : ℕ) → Within a k (λ c. f c ≡ g c) → sum_by f (range_with_len a k) ≡ sum_by g (range_with_len a k)
same_sums f g a zero same = refl
same_sums f g a (suc k) same =
    let here : f a ≡ g a = same a (omega arith) (omega arith) in
    let rest = same_sums f g (a + 1) k (rest_of a k (λ c. f c ≡ g c) same) in
    let left = sum_by-cons f a (range_with_len (a + 1) k) in
    let right = sum_by-cons g a (range_with_len (a + 1) k) in
    omega arith

pub less_sums : (f g : ℕ → ℕ) (a k : ℕ) → Within a k (λ c. f c ≤ g c) → sum_by f (range_with_len a k) ≤ sum_by g (range_with_len a k)
less_sums f g a zero less = omega arith
less_sums f g a (suc k) less =
    let here : f a ≤ g a = less a (omega arith) (omega arith) in
    let rest = less_sums f g (a + 1) k (rest_of a k (λ c. f c ≤ g c) less) in
    let left = sum_by-cons f a (range_with_len (a + 1) k) in
    let right = sum_by-cons g a (range_with_len (a + 1) k) in
    omega arith

pub sum_bounded : (f : ℕ → ℕ) (a k m : ℕ) → ((c : ℕ) → f c ≤ m) → sum_by f (range_with_len a k) ≤ k * m
sum_bounded f a zero m bound = omega arith
sum_bounded f a (suc k) m bound =
    let here = bound a in
    let rest = sum_bounded f (a + 1) k m bound in
    let left = sum_by-cons f a (range_with_len (a + 1) k) in
    let more : suc k * m ≡ k * m + m = suc-mul k m in
    omega arith

pub joined_ranges : (a j k : ℕ) → range_with_len a (j + k) ≡ range_with_len a j ++ range_with_len (a + j) k
joined_ranges a zero k = ap (λ (i : ℕ). range_with_len a i) (zero-add k) ∙ ap (λ (i : ℕ). range_with_len i k) (sym (add-zero a))
joined_ranges a (suc j) k =
    ap (λ (i : ℕ). range_with_len a i) (suc-add j k) ∙ ap (λ (xs : List ℕ). a ∷ xs) (joined_ranges (a + 1) j k)
    ∙ ap (λ (i : ℕ). (a ∷ range_with_len (a + 1) j) ++ range_with_len i k) (omega arith)

pub joined_sums : (f : ℕ → ℕ) (a j k : ℕ) → sum_by f (range_with_len a (j + k)) ≡ sum_by f (range_with_len a j) + sum_by f (range_with_len (a + j) k)
joined_sums f a j k = ap (sum_by f) (joined_ranges a j k) ∙ sum_by-append f (range_with_len a j) (range_with_len (a + j) k)

pub tested_at : (p : ℕ → Bool) (a k : ℕ) → list_all p (range_with_len a k) ≡ true → Within a k (λ c. p c ≡ true)
tested_at p a zero all c low high = absurd (omega arith)
tested_at p a (suc k) all c low high =
    let each = both (p a) (list_all p (range_with_len (a + 1) k)) all in
    dite (ℕ_discrete c a) (λ e. subst (λ (i : ℕ). p i ≡ true) (sym e) each.0) (λ ne. tested_at p (a + 1) k each.1 c (omega arith) (omega arith))

pub tests_all : (p : ℕ → Bool) (a k : ℕ) → Within a k (λ c. p c ≡ true) → list_all p (range_with_len a k) ≡ true
tests_all p a zero all = refl
tests_all p a (suc k) all =
    let here : p a ≡ true = all a (omega arith) (omega arith) in
    let rest = tests_all p (a + 1) k (rest_of a k (λ c. p c ≡ true) all) in
    ap (λ (b : Bool). b && list_all p (range_with_len (a + 1) k)) here ∙ rest

pub sum_of_map : {X : Type 0} (g : X → ℕ) (f : ℕ → X) (ks : List ℕ) → sum_by g (map f ks) ≡ sum_by (λ k. g (f k)) ks
sum_of_map g f [] = refl
sum_of_map g f (k ∷ ks) =
    let rest = sum_of_map g f ks in
    let left = sum_by-cons g (f k) (map f ks) in
    let right = sum_by-cons (λ i. g (f i)) k ks in
    omega arith
