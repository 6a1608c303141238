use Rattle.path_text.proofs.Prelude.{arith, ◌≡◌, ◌<◌, ◌∙◌, length, ℕ, Bool, false, ◌==◌, nat_tests}
use Rattle.path_text.proofs.Told.{refusal_told}
use Rattle.path_text.proofs.written.told_refusal.Goals as goal

pub returns-else-is_empty : goal.returns-else-is_empty
returns-else-is_empty c =
    let bytes = c.in-Some.bytes.now in
    c.first_written.ensures ∙ refusal_told c.args.text.now bytes c.in-Some.first.now c.in-Some.ensures.cases.0 (omega (arith, c.if-first-ne47.false)) c.requires
    (omega (arith, c.told_len.ensures)) (some (length bytes) _ c.is_empty.ensures c.if-is_empty.false)
  where
    some : (n : ℕ) (t : Bool) → t ≡ (n == 0) → t ≡ false → 0 < n
    some n t e h = grind (arith, nat_tests)
