use Rattle.ring_core.proofs.Prelude.{◌≡◌, ℕ, ◌+◌, ◌-◌, ◌/◌, ◌%◌, ◌<◌, ◌≤◌, ◌^◌, List, [], ◌∷◌, ◌++◌, length, drop, set, refl, sym, ap, ◌∙◌, arith, append_assoc}
use Rattle.ring_core.proofs.Prelude.{append-nil, length-append, length-set, decimal, decimal_digit, decimal_step, decimal_nonempty, length-decimal-le, drop-set}
use Rattle.ring_core.proofs.texts.digits_of.Goals as goal

-- one digit more
length_step : (n : ℕ) → 10 ≤ n → n < 2 ^ 64 → length (decimal n) ≡ length (decimal (n / 10)) + 1
length_step n more fits = ap length (decimal_step n more fits) ∙ length-append (decimal (n / 10)) _

pub loop-left-init : goal.loop-left-init
loop-left-init c = record {
  room = length-decimal-le 20 c.args.value (omega arith) (omega arith) c.ranges.value.fits;
  sized = refl;
  inside = omega arith;
  rest = append-nil (decimal c.args.value);
}

pub overflow_sub-at : goal.overflow_sub-at
overflow_sub-at c = let some = decimal_nonempty c.loop-left.left c.loop-left.auto.left-fits.fits in omega arith

pub loop-left-preserved : goal.loop-left-preserved
loop-left-preserved c =
    let left = c.loop-left.left in
    let at = c.loop-left.at in
    let digit = 48 + left % 10 in
    let step = length_step left c.loop-left-test.true c.loop-left.auto.left-fits.fits in
    let some = decimal_nonempty (left / 10) (omega arith) in
    let same : at - 1 + 1 ≡ at = omega arith in
    let written : drop at (set c.loop-left.digits at digit) ≡ digit ∷ drop (at + 1) c.loop-left.digits = drop-set c.loop-left.digits at digit (omega arith) in
    record {
      room = omega arith;
      sized = length-set c.loop-left.digits at digit ∙ c.loop-left.invariant.sized;
      inside = omega arith;
      rest = ap (λ k. decimal (left / 10) ++ drop k (set c.loop-left.digits at digit)) same ∙ ap (λ xs. decimal (left / 10) ++ xs) written
          ∙ sym (append_assoc (decimal (left / 10)) (digit ∷ []) (drop (at + 1) c.loop-left.digits))
          ∙ ap (λ xs. xs ++ drop (at + 1) c.loop-left.digits) (sym (decimal_step left c.loop-left-test.true c.loop-left.auto.left-fits.fits))
          ∙ c.loop-left.invariant.rest;
    }

pub overflow_sub-digits : goal.overflow_sub-digits
overflow_sub-digits c = let some = decimal_nonempty c.loop-left.left c.loop-left.auto.left-fits.fits in omega arith

pub overflow_sub-result : goal.overflow_sub-result
overflow_sub-result c = let some = decimal_nonempty c.loop-left.left c.loop-left.auto.left-fits.fits in omega arith

pub returns-clause-digits : goal.returns-clause-digits
returns-clause-digits c =
    let left = c.loop-left.left in
    let at = c.loop-left.at in
    let some = decimal_nonempty left c.loop-left.auto.left-fits.fits in
    let last : List ℕ = set c.loop-left.digits at (48 + left) in
    let long : length last ≡ 21 = length-set c.loop-left.digits at (48 + left) ∙ c.loop-left.invariant.sized in
    let same : at - 1 + 1 ≡ at = omega arith in
    drop-set last (at - 1) 32 (omega arith)
    ∙ ap (λ k. 32 ∷ drop k last) same
    ∙ ap (λ xs. 32 ∷ xs) (drop-set c.loop-left.digits at (48 + left) (omega arith)
    ∙ ap (λ xs. xs ++ drop (at + 1) c.loop-left.digits) (sym (decimal_digit left c.loop-left-test.false))
    ∙ c.loop-left.invariant.rest)
