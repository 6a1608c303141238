use Rattle.whole_lines.proofs.Prelude.{arith, ◌≡◌, true, ◌∙◌, sym, is_ascii_digit, slice_index}
use Rattle.whole_lines.proofs.Digits.{digits_fit, next_each, next_value}
use Rattle.whole_lines.proofs.reading.digits_of.Goals as goal

pub overflow_mul-value : goal.overflow_mul-value
overflow_mul-value c =
    let before = c.loop-len.invariant in
    let fit = digits_fit c.args.text.now c.loop-len.len c.loop-len.value (omega arith) before.within before.each before.value in
    omega (arith, fit)

pub overflow_add-value : goal.overflow_add-value
overflow_add-value c =
    let before = c.loop-len.invariant in
    let fit = digits_fit c.args.text.now c.loop-len.len c.loop-len.value (omega arith) before.within before.each before.value in
    omega (arith, fit, c.type_inv.text c.loop-len.len)

pub loop-len-preserved : goal.loop-len-preserved
loop-len-preserved c =
    let before = c.loop-len.invariant in
    let digit : is_ascii_digit (slice_index c.args.text.now c.loop-len.len) ≡ true = sym c.is_ascii_digit.ensures.value ∙ c.if-is_ascii_digit.true in
    record {
      few = omega arith;
      within = omega arith;
      each = next_each c.args.text.now c.loop-len.len (omega arith) before.each digit;
      value = next_value c.args.text.now c.loop-len.len c.loop-len.value (omega arith) digit before.value;
    }
