-- A bit of a word that is set or turned.
use Rattle.post_board.proofs.Prelude.{◌≡◌, ◌≢◌, ℕ, ◌+◌, ◌^◌, ◌%◌, ◌<◌, ◌==◌, max, ap, arith, true, false, bit_or, bit_xor, eq-eqb, ne_eqb, bit_at, bit_at_or}
use Rattle.post_board.proofs.Prelude.{bit_at_xor, bit_at-pow_same, bit_at-pow_other, bit_at-lt, eqb-true, has_bit}

pub bit_set : (w r : ℕ) → has_bit (bit_or w (2 ^ r)) r ≡ true
bit_set w r = let a : bit_at (bit_or w (2 ^ r)) r ≡ max (bit_at w r) (bit_at (2 ^ r) r) = bit_at_or w (2 ^ r) r in
    let b : bit_at (2 ^ r) r ≡ 1 = bit_at-pow_same r in let c : bit_at w r < 2 = bit_at-lt w r in
    eq-eqb (bit_at (bit_or w (2 ^ r)) r) 1 (omega arith)

pub bit_else : (w r k : ℕ) → k ≢ r → has_bit (bit_or w (2 ^ r)) k ≡ has_bit w k
bit_else w r k ne = let a : bit_at (bit_or w (2 ^ r)) k ≡ max (bit_at w k) (bit_at (2 ^ r) k) = bit_at_or w (2 ^ r) k in
    let b : bit_at (2 ^ r) k ≡ 0 = bit_at-pow_other r k ne in
    let c : bit_at (bit_or w (2 ^ r)) k ≡ bit_at w k = omega arith in ap (λ x. x == 1) c

-- the bit r is turned off
pub bit_gone : (w r : ℕ) → has_bit w r ≡ true → has_bit (bit_xor w (2 ^ r)) r ≡ false
bit_gone w r on =
    let a : bit_at (bit_xor w (2 ^ r)) r ≡ (bit_at w r + bit_at (2 ^ r) r) % 2 = bit_at_xor w (2 ^ r) r in
    let b : bit_at (2 ^ r) r ≡ 1 = bit_at-pow_same r in
    let c : bit_at w r ≡ 1 = eqb-true (bit_at w r) 1 on in
    ne_eqb (bit_at (bit_xor w (2 ^ r)) r) 1 (λ e. omega arith)

pub bit_stays : (w r k : ℕ) → k ≢ r → has_bit (bit_xor w (2 ^ r)) k ≡ has_bit w k
bit_stays w r k ne =
    let a : bit_at (bit_xor w (2 ^ r)) k ≡ (bit_at w k + bit_at (2 ^ r) k) % 2 = bit_at_xor w (2 ^ r) k in
    let b : bit_at (2 ^ r) k ≡ 0 = bit_at-pow_other r k ne in
    let c : bit_at w k < 2 = bit_at-lt w k in
    ap (λ x. x == 1) (let d : bit_at (bit_xor w (2 ^ r)) k ≡ bit_at w k = omega arith in d)
