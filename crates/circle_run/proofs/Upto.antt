-- Sums over the numbers mod_below a number.
use Rattle.circle_run.proofs.Prelude.{◌≡◌, ℕ, zero, suc, ◌+◌, ◌%◌, ◌==◌, ◌<◌, Bool, true, false, cond, List, [], ◌∷◌, length, get_or, refl, sym, ap, ◌∙◌, arith}
use Rattle.circle_run.proofs.Prelude.{sum_by, flat_map, nat_tests, sum_by-cons, sum_by-append, Strings, dealt_from, mod_below}

abbrev pub upto : (ℕ → ℕ) → ℕ → ℕ
upto f zero = 0
upto f (suc n) = f 0 + upto (λ k. f (suc k)) n

pub upto_same : (f g : ℕ → ℕ) (n : ℕ) → ((k : ℕ) → k < n → f k ≡ g k) → upto f n ≡ upto g n
upto_same f g zero h = refl
upto_same f g (suc n) h = (λ i. h 0 (omega arith) i + upto_same (λ k. f (suc k)) (λ k. g (suc k)) n (λ k b. h (suc k) (omega arith)) i)

pub upto_add : (f g : ℕ → ℕ) (n : ℕ) → upto (λ k. f k + g k) n ≡ upto f n + upto g n
upto_add f g zero = omega arith
upto_add f g (suc n) = omega (arith, upto_add (λ k. f (suc k)) (λ k. g (suc k)) n)

upto_none : (n : ℕ) → upto (λ k. 0) n ≡ 0
upto_none zero = refl
upto_none (suc n) = omega (arith, upto_none n)

pub upto_swap : (f : ℕ → ℕ → ℕ) (m n : ℕ) → upto (λ i. upto (λ j. f i j) n) m ≡ upto (λ j. upto (λ i. f i j) m) n
upto_swap f zero n = sym (upto_none n)
upto_swap f (suc m) n = ap (λ (x : ℕ). upto (λ j. f 0 j) n + x) (upto_swap (λ i j. f (suc i) j) m n)
    ∙ sym (upto_add (λ j. f 0 j) (λ j. upto (λ i. f (suc i) j) m) n)

pub upto_list : {X : Type 0} (f : X → ℕ) (xs : List X) (d : X) → sum_by f xs ≡ upto (λ k. f (get_or xs k d)) (length xs)
upto_list f [] d = refl
upto_list f (x ∷ xs) d = sum_by-cons f x xs ∙ ap (λ (n : ℕ). f x + n) (upto_list f xs d)

pub upto_long : {X : Type 0} (f : X → ℕ) (xs : List X) (d : X) (n : ℕ) → length xs ≡ n → sum_by f xs ≡ upto (λ k. f (get_or xs k d)) n
upto_long f xs d n e = upto_list f xs d ∙ ap (upto (λ k. f (get_or xs k d))) e

other : (m a : ℕ) → (cond (suc m == 0) a 0) ≡ 0
other m a = grind (arith, nat_tests)

next : (m k a : ℕ) → (cond (suc m == suc k) a 0) ≡ cond (m == k) a 0
next m k a = grind (arith, nat_tests)

past : (k a : ℕ) → (cond (0 == suc k) a 0) ≡ 0
past k a = grind (arith, nat_tests)

pub upto_one : (m n a : ℕ) → m < n → upto (λ k. cond (m == k) a 0) n ≡ a
upto_one m zero a h = absurd (omega arith)
upto_one zero (suc n) a h = let e : upto (λ k. cond (0 == suc k) a 0) n ≡ 0 =
    upto_same (λ k. cond (0 == suc k) a 0) (λ k. 0) n (λ k b. past k a) ∙ upto_none n in omega (arith, e)
upto_one (suc m) (suc n) a h =
    let e : upto (λ k. cond (suc m == suc k) a 0) n ≡ a =
    upto_same (λ k. cond (suc m == suc k) a 0) (λ k. cond (m == k) a 0) n (λ k b. next m k a) ∙ upto_one m n a (omega arith) in
    omega (arith, e, other m a)

-- what is dealt to all ranks
one_weighs : (w : List ℕ → ℕ) (b : Bool) (s : List ℕ) → sum_by w (cond b (s ∷ []) []) ≡ cond b (w s) 0
one_weighs w true s = omega (arith, sum_by-cons w s [])
one_weighs w false s = refl

pub dealt_all : (w : List ℕ → ℕ) (n k : ℕ) (starts : Strings) → 0 < n → upto (λ r. sum_by w (dealt_from n r k starts)) n ≡ sum_by w starts
dealt_all w n k [] h = upto_none n
dealt_all w n k (s ∷ starts) h =
    upto_same (λ r. sum_by w (dealt_from n r k (s ∷ starts))) (λ r. cond (k % n == r) (w s) 0 + sum_by w (dealt_from n r (suc k) starts)) n
    (λ r b. sum_by-append w (cond (k % n == r) (s ∷ []) []) (dealt_from n r (suc k) starts)
    ∙ ap (λ (x : ℕ). x + sum_by w (dealt_from n r (suc k) starts)) (one_weighs w (k % n == r) s))
    ∙ upto_add (λ r. cond (k % n == r) (w s) 0) (λ r. sum_by w (dealt_from n r (suc k) starts)) n
    ∙ (λ i. upto_one (k % n) n (w s) (mod_below k n h) i + dealt_all w n (suc k) starts h i)
    ∙ sym (sum_by-cons w s starts)

-- the logs of all ranks
pub flat_weighs : {X : Type 0} (f : X → ℕ) (xss : List (List X)) → sum_by f (flat_map (λ l. l) xss) ≡ sum_by (sum_by f) xss
flat_weighs f [] = refl
flat_weighs f (xs ∷ xss) = sum_by-append f xs (flat_map (λ l. l) xss) ∙ ap (λ (n : ℕ). sum_by f xs + n) (flat_weighs f xss)
    ∙ sym (sum_by-cons (sum_by f) xs xss)
