-- The starts are dealt in turn.
use Rattle.circle_run.proofs.Prelude.{◌≡◌, ℕ, suc, ◌+◌, ◌*◌, ◌/◌, ◌%◌, ◌==◌, ◌<◌, sym, ap, ◌∙◌, arith, Bool, cond, List, [], ◌∷◌, ◌++◌, map, length, length-set}
use Rattle.circle_run.proofs.Prelude.{replicate, set, get_or, get_or-set_same, get_or-set_other, append_assoc, append-nil, eq-eqb, ne_eqb}
use Rattle.circle_run.proofs.Prelude.{mul-add-mod_self_left, div-add-mod, length-replicate, get_or-replicate, length-map-range_with_len}
use Rattle.circle_run.proofs.Prelude.{get_or-map-range_with_len, fill_by_all, range_with_len, dite, ℕ_discrete, Strings, dealt_from, dealt_to}

pub turn_more : (n k : ℕ) → (k % n + 1) % n ≡ (k + 1) % n
turn_more n k =
    let whole : n * (k / n) + k % n ≡ k = div-add-mod k n in
    sym (ap (λ (q : ℕ). q % n) (let e : k + 1 ≡ n * (k / n) + (k % n + 1) = omega arith in e) ∙ mul-add-mod_self_left n (k / n) (k % n + 1))

pub none_dealt : (n : ℕ) (batches : List Strings) → batches ≡ replicate n [] → batches ≡ map (dealt_to n []) (range_with_len 0 n)
none_dealt n batches none = none ∙ fill_by_all (dealt_to n []) (replicate n []) n [] (length-replicate n []) (λ k below. get_or-replicate n k [] [] below)

dealt-push : (n r j : ℕ) (starts : Strings) (s : List ℕ)
    → dealt_from n r j (starts ++ s ∷ []) ≡ dealt_from n r j starts ++ cond ((j + length starts) % n == r) (s ∷ []) []
dealt-push n r j [] s = append-nil (cond (j % n == r) (s ∷ []) []) ∙ ap (λ (i : ℕ). cond (i % n == r) (s ∷ []) []) (let e : j ≡ j + 0 = omega arith in e)
dealt-push n r j (x ∷ starts) s =
    ap (λ (l : Strings). cond (j % n == r) (x ∷ []) [] ++ l)
    (dealt-push n r (suc j) starts s
    ∙ ap (λ (i : ℕ). dealt_from n r (suc j) starts ++ cond (i % n == r) (s ∷ []) [])
    (let e : suc j + length starts ≡ j + suc (length starts) = omega arith in e))
    ∙ sym (append_assoc (cond (j % n == r) (x ∷ []) []) (dealt_from n r (suc j) starts) (cond ((j + suc (length starts)) % n == r) (s ∷ []) []))

pub dealt_more : (n k : ℕ) (starts : Strings) (s : List ℕ) (batches : List Strings) (batch batch' : Strings) → k ≡ length starts % n → k < n
    → batches ≡ map (dealt_to n starts) (range_with_len 0 n)
    → batch ≡ get_or batches k batch → batch' ≡ batch ++ s ∷ [] → set batches k batch' ≡ map (dealt_to n (starts ++ s ∷ [])) (range_with_len 0 n)
dealt_more n k starts s batches batch batch' turn below old was new =
    let long : length batches ≡ n = ap length old ∙ length-map-range_with_len (dealt_to n starts) 0 n in
    let at : (r : ℕ) (d : Strings) → r < n → get_or batches r d ≡ dealt_to n starts r =
    λ r d h. ap (λ (l : List Strings). get_or l r d) old ∙ get_or-map-range_with_len (dealt_to n starts) 0 n r r d h (omega arith) in
    let own : (0 + length starts) % n ≡ k = ap (λ (i : ℕ). i % n) (let e : 0 + length starts ≡ length starts = omega arith in e) ∙ sym turn in
    fill_by_all (dealt_to n (starts ++ s ∷ [])) (set batches k batch') n [] (length-set batches k batch' ∙ long)
    (λ r h. dite (ℕ_discrete r k)
    (λ e. ap (λ (i : ℕ). get_or (set batches k batch') i []) e ∙ get_or-set_same batches k batch' [] (omega (arith, long, below)) ∙ new
    ∙ ap (λ (l : Strings). l ++ s ∷ []) (was ∙ at k batch below)
    ∙ ap (λ (b : Bool). dealt_to n starts k ++ cond b (s ∷ []) []) (sym (eq-eqb ((0 + length starts) % n) k own))
    ∙ sym (dealt-push n k 0 starts s) ∙ ap (dealt_to n (starts ++ s ∷ [])) (sym e))
    (λ ne. get_or-set_other batches k r batch' [] ne ∙ at r [] h ∙ sym (append-nil (dealt_to n starts r))
    ∙ ap (λ (b : Bool). dealt_to n starts r ++ cond b (s ∷ []) []) (sym (ne_eqb ((0 + length starts) % n) r (λ e. ne (sym e ∙ own))))
    ∙ sym (dealt-push n r 0 starts s)))
