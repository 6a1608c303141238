use Rattle.entry_pages.proofs.Prelude.{rules, arith, ◌≡◌, ◌∙◌, ◌+◌, ◌-◌, ℕ, false, true, cond, sym, ap, subst, take, drop, ◌==◌, IsUtf8, is_text}
use Rattle.std.proofs.Common.{Some, None}
use Rattle.entry_pages.proofs.Slimmed.{text_utf8}
use Rattle.entry_pages.proofs.heads.text_at.Goals as goal

pub from_utf8_unchecked-requires : goal.from_utf8_unchecked-requires
from_utf8_unchecked-requires c =
    let text = take c.args.len (drop c.args.at c.args.texts.now) in
    let some : (c.args.len == 0) ≡ false = search rules in
    let valid : is_text (Some text) ≡ true = sym (ap (λ b. is_text (cond b None (Some text))) some) ∙ c.requires.valid in
    let len : c.args.len ≡ c.args.at + c.args.len - c.args.at = omega arith in
    subst (λ (n : ℕ). IsUtf8 (take n (drop c.args.at c.args.texts.now))) len (text_utf8 text valid)
