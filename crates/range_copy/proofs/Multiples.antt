-- The multiples below a size, and the size, are cuts.
use Rattle.range_copy.proofs.Prelude.{◌≡◌, ℕ, zero, suc, ◌+◌, ◌-◌, ◌*◌, ◌/◌, ◌≤◌, ◌<◌, Bool, true, false, List, [], ◌∷◌, ◌++◌, length, refl, ap, ◌∙◌, sym, cond}
use Rattle.range_copy.proofs.Prelude.{arith, lt-ltb, ltb-true, ltb-false, and_from, suc-eq-add-one, div_below, div-mul-le_self, lt-div-mul-add, nat_lt}
use Rattle.range_copy.proofs.Prelude.{ascends_above, are_cuts, end_of, last_of, least_step, step_of, steps_from, range_cuts}
use Rattle.std.proofs.lemmas.List.{length-append}

-- how many they are
pub length_steps : (at step n : ℕ) → length (steps_from at step n) ≡ n
length_steps at step zero = refl
length_steps at step (suc n) = ap suc (length_steps (at + step) step n)

-- one more
pub one_step : (at step n : ℕ) → steps_from at step (suc n) ≡ steps_from at step n ++ (at + n * step) ∷ []
one_step at step zero = let e : at ≡ at + 0 * step = omega arith in ap (λ x. x ∷ []) e
one_step at step (suc n) =
    let e : at + step + n * step ≡ at + suc n * step = grind arith in
    ap (λ xs. at ∷ xs) (one_step (at + step) step n ∙ ap (λ x. steps_from (at + step) step n ++ x ∷ []) e)

up : (n before at step size : ℕ) → 1 ≤ step → before < at → before < size → at + n * step < size + step
    → ascends_above before (steps_from at step n ++ size ∷ []) ≡ true
up zero before at step size s p q l = and_from (nat_lt before size) true (lt-ltb before size q) refl
up (suc n) before at step size s p q l =
    let inside : at < size = grind arith in
    let next : at + step + n * step < size + step = grind arith in
    and_from (nat_lt before at) (ascends_above at (steps_from (at + step) step n ++ size ∷ [])) (lt-ltb before at p)
    (up n at (at + step) step size s (omega (arith, s)) inside next)

some_cuts : (rest : List ℕ) → 0 < length rest → ascends_above 0 rest ≡ true → are_cuts (0 ∷ rest) ≡ true
some_cuts [] l e = absurd (omega (arith, l))
some_cuts (x ∷ xs) l e = e

pub are_ranges : (size step : ℕ) → 1 ≤ step → 1 ≤ size → are_cuts (range_cuts size step) ≡ true
are_ranges size step s o =
    let below : (size - 1) / step * step ≤ size - 1 = div-mul-le_self (size - 1) step in
    some_cuts (steps_from (0 + step) step ((size - 1) / step) ++ size ∷ []) (some (steps_from (0 + step) step ((size - 1) / step)))
    (up ((size - 1) / step) 0 (0 + step) step size s (omega (arith, s)) (omega (arith, o)) (omega (arith, below, o)))
  where
    some : (xs : List ℕ) → 0 < length (xs ++ size ∷ [])
    some [] = omega arith
    some (x ∷ xs) = omega arith

-- a file has 4,096 ranges at most
pub few_ranges : (size step : ℕ) → least_step size ≤ step → (size - 1) / step < 4096
few_ranges size step l =
    let room : size - 1 < (size - 1) / 4096 * 4096 + 4096 = lt-div-mul-add (omega arith) in
    div_below (size - 1) step 4096 (omega (arith, l)) (omega (arith, l, room))

-- the loop that pushes them

pub next_step : (step k p : ℕ) (xs ys : List ℕ) → ys ≡ xs ++ p ∷ [] → xs ≡ steps_from 0 step k → p ≡ k * step → ys ≡ steps_from 0 step (k + 1)
next_step step k p xs ys y x e =
    let here : p ≡ 0 + k * step = omega (arith, e) in
    y ∙ ap (λ z. z ++ p ∷ []) x ∙ ap (λ q. steps_from 0 step k ++ q ∷ []) here ∙ sym (one_step 0 step k) ∙ ap (steps_from 0 step) (suc-eq-add-one k)

pub are_all : (size piece step k : ℕ) (xs ys : List ℕ) → step ≡ step_of size piece → xs ≡ steps_from 0 step k → k ≡ (size - 1) / step + 1
    → ys ≡ xs ++ size ∷ [] → ys ≡ range_cuts size (step_of size piece)
are_all size piece step k xs ys s x e y =
    y ∙ ap (λ z. z ++ size ∷ []) (x ∙ ap (steps_from 0 step) (e ∙ sym (suc-eq-add-one ((size - 1) / step))))
    ∙ ap (λ t. steps_from 0 t (suc ((size - 1) / t)) ++ size ∷ []) s

bounds : (b : Bool) (piece least : ℕ) → nat_lt piece least ≡ b → 1 ≤ piece → (least ≤ cond b least piece) × (1 ≤ cond b least piece)
bounds true piece least e p = (omega arith, omega (arith, p, ltb-true piece least e))
bounds false piece least e p = (omega (arith, ltb-false piece least e), p)

pub step_bounds : (size piece : ℕ) → 1 ≤ piece → (least_step size ≤ step_of size piece) × (1 ≤ step_of size piece)
step_bounds size piece p = bounds (nat_lt piece (least_step size)) piece (least_step size) refl p

pub cut_right : (size piece : ℕ) (ys : List ℕ) → 1 ≤ piece → 1 ≤ size → ys ≡ range_cuts size (step_of size piece) → are_cuts ys ≡ true
cut_right size piece ys p o y = ap are_cuts y ∙ are_ranges size (step_of size piece) (step_bounds size piece p).1 o

pub cut_few : (size piece : ℕ) (ys : List ℕ) → 1 ≤ piece → ys ≡ range_cuts size (step_of size piece) → length ys ≤ 4097
cut_few size piece ys p y =
    let step = step_of size piece in
    let few = few_ranges size step (step_bounds size piece p).0 in
    let whole = ap length y ∙ length-append (steps_from 0 step (suc ((size - 1) / step))) (size ∷ []) in
    let many = length_steps 0 step (suc ((size - 1) / step)) in
    omega (arith, few, whole, many)

-- they end with the size
last_push : (at : ℕ) (xs : List ℕ) (x : ℕ) → last_of at (xs ++ x ∷ []) ≡ x
last_push at [] x = refl
last_push at (y ∷ xs) x = last_push y xs x

pub cut_whole : (size piece : ℕ) (ys : List ℕ) → ys ≡ range_cuts size (step_of size piece) → end_of ys ≡ size
cut_whole size piece ys y =
    let step = step_of size piece in
    ap end_of y ∙ last_push 0 (steps_from (0 + step) step ((size - 1) / step)) size
