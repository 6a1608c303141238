-- What a rank gives to those that ask it is less than it has: one string stays.
use Rattle.circle_run.proofs.Prelude.{◌≡◌, ℕ, zero, suc, ◌+◌, ◌-◌, ◌*◌, ◌/◌, ◌<◌, ◌≤◌, ◌^◌, ◌==◌, min, cond, Bool, true, false, List, ◌++◌, length, map}
use Rattle.circle_run.proofs.Prelude.{replicate, sym, ap, ◌∙◌, arith, mul-zero, length-append, sum_by, flat_map, mul-div-le, suc-mul, mod-lt, sum_by-replicate}
use Rattle.circle_run.proofs.Prelude.{sum_by-cons, sum-map, length-flat_map, Lcg, word, after_word, equal_share, random_share, lots, amounts, Split, Equal}
use Rattle.circle_run.proofs.Prelude.{Random, Strings}

abbrev total : List ℕ → ℕ
total shares = sum_by (λ (k : ℕ). k) shares

few_lots : (r left : ℕ) (from : Lcg) → total (lots left r from).0 ≤ left
few_lots zero left from = omega arith
few_lots (suc r) left from =
    let share : ℕ = random_share left (word from) in
    let first : share ≤ left = (let below = mod-lt (word from) {m = left + 1} (omega arith) in omega arith) in
    let rest = few_lots r (left - share) (after_word from) in
    omega (arith, sum_by-cons (λ (k : ℕ). k) share (lots (left - share) r (after_word from)).0)

less_by_one : (k r q : ℕ) → (r + 1) * k ≤ q → r * k ≤ q - 1
less_by_one zero r q all = let e = mul-zero r in omega arith
less_by_one (suc k) r q all = let e = suc-mul r (suc k) in let n : r + 1 ≡ suc r = omega arith in
    let f : (r + 1) * suc k ≡ suc r * suc k = ap (λ m. m * suc k) n in omega arith

few_equal : (q r : ℕ) → total (replicate r (equal_share q r)) ≤ q - 1
few_equal q r =
    let all : r * (q / (r + 1)) ≤ q - 1 = less_by_one (q / (r + 1)) r q (mul-div-le q (r + 1)) in
    omega (arith, sum_by-replicate (λ (k : ℕ). k) r (equal_share q r), all)

few_amounts : (split : Split) (q r : ℕ) (from : Lcg) → total (amounts split q r from).0 ≤ q - 1
few_amounts Equal q r from = few_equal q r
few_amounts Random q r from = elim (q == 0) as (λ (b : Bool). total (cond b (replicate r 0, from) (lots (min q (2 ^ 32) - 1) r from)).0 ≤ q - 1) [
  | true ↦ omega (arith, sum_by-replicate (λ (k : ℕ). k) r 0, mul-zero r)
  | false ↦ (let h = few_lots r (min q (2 ^ 32) - 1) from in omega arith)
]

-- where any string is given, one stays
pub one_stays : (split : Split) (answers : List (ℕ × Strings)) (queue rest : Strings) (from : Lcg)
    → map (λ x. length x.1) answers ≡ (amounts split (length queue) (length answers) from).0
    → queue ≡ flat_map (λ x. x.1) answers ++ rest → 0 < length (flat_map (λ (x : ℕ × Strings). x.1) answers) → 0 < length rest
one_stays split answers queue rest from shares oldest some =
    let given : length (flat_map (λ (x : ℕ × Strings). x.1) answers) ≡ total (map (λ (x : ℕ × Strings). length x.1) answers) =
    length-flat_map (λ (x : ℕ × Strings). x.1) answers ∙ sym (sum-map (λ (x : ℕ × Strings). length x.1) answers) in
    let all : length queue ≡ length (flat_map (λ (x : ℕ × Strings). x.1) answers) + length rest = ap length oldest
    ∙ length-append (flat_map (λ (x : ℕ × Strings). x.1) answers) rest in
    omega (arith, given, ap total shares, all, few_amounts split (length queue) (length answers) from)
