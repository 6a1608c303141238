-- How many strings each rank is dealt: as many as there are whole rounds, and one more where the last round comes to it.
use Rattle.ring_core.proofs.Prelude.{◌≡◌, ℕ, zero, suc, ◌+◌, ◌*◌, ◌/◌, ◌%◌, ◌<◌, ◌≤◌, cond, ◌==◌, nat_lt, [], ◌∷◌, ◌++◌, count_by, sym, ap, ◌∙◌, arith}
use Rattle.ring_core.proofs.Prelude.{add-zero, zero-add, mul-zero, mul-suc, range_with_len, mul-add-mod_self_left, mod-eq_of_lt, div-add-mod, mod-lt}
use Rattle.ring_core.proofs.Prelude.{sum_by_push, nat_tests, dealt}

pub range_more : (a n : ℕ) → range_with_len a (suc n) ≡ range_with_len a n ++ (a + n) ∷ []
range_more a zero = ap (λ k. k ∷ []) (sym (add-zero a))
range_more a (suc n) =
    ap (λ xs. a ∷ xs) (range_more (a + 1) n ∙ ap (λ k. range_with_len (a + 1) n ++ k ∷ []) (omega arith))

pub dealt_more : (n s r : ℕ) → dealt n (suc s) r ≡ dealt n s r + cond (s % n == r) 1 0
dealt_more n s r =
    ap (count_by (λ k. k % n == r)) (range_more 0 s) ∙ sum_by_push (λ k. cond (k % n == r) 1 0) (range_with_len 0 s) (0 + s)
    ∙ ap (λ k. dealt n s r + cond (k % n == r) 1 0) (zero-add s)

one_more : (q m r : ℕ) → (q + cond (nat_lt r m) 1 0) + cond (m == r) 1 0 ≡ q + cond (nat_lt r (suc m)) 1 0
one_more q m r = grind (arith, nat_tests)

-- after q whole rounds, the ranks below m have one string more
in_round : (n q r m : ℕ) → r < n → m ≤ n → dealt n (n * q) r ≡ q → dealt n (n * q + m) r ≡ q + cond (nat_lt r m) 1 0
in_round n q r zero h inside start = ap (λ k. dealt n k r) (add-zero (n * q)) ∙ start ∙ grind (arith, nat_tests)
in_round n q r (suc m) h inside start =
    let place : (n * q + m) % n ≡ m = mul-add-mod_self_left n q m ∙ mod-eq_of_lt (omega arith) in
    let next : n * q + suc m ≡ suc (n * q + m) = omega arith in
    ap (λ k. dealt n k r) next ∙ dealt_more n (n * q + m) r
    ∙ ap (λ k. dealt n (n * q + m) r + cond (k == r) 1 0) place
    ∙ ap (λ k. k + cond (m == r) 1 0) (in_round n q r m h (omega arith) start)
    ∙ one_more q m r

whole_rounds : (n r q : ℕ) → r < n → dealt n (n * q) r ≡ q
whole_rounds n r zero h = ap (λ k. dealt n k r) (mul-zero n)
whole_rounds n r (suc q) h =
    ap (λ k. dealt n k r) (mul-suc n q) ∙ in_round n q r n h (omega arith) (whole_rounds n r q h) ∙ grind (arith, nat_tests)

pub dealt_is : (n starts r : ℕ) → r < n → dealt n starts r ≡ starts / n + cond (nat_lt r (starts % n)) 1 0
dealt_is n starts r h =
    let inside : starts % n ≤ n = (let below = mod-lt starts {m = n} (omega arith) in omega arith) in
    ap (λ k. dealt n k r) (sym (div-add-mod starts n)) ∙ in_round n (starts / n) r (starts % n) h inside (whole_rounds n r (starts / n) h)
