-- What is written for a link's text is read as that text, and nothing else is.
use Rattle.outside.proofs.Prelude.{◌≡◌, ℕ, ◌≤◌, true, false, List, length, refl, ap, sym, ◌∙◌, arith, cond, Option, Some, None, nat_lt, nat_tests, escape}
use Rattle.outside.proofs.Prelude.{good_len, unescaped, UnescapingUndoesEscaping, LinkTextError, BadEscape, link_refusal, link_of, link_reading}
use Rattle.outside.proofs.Prelude.{LinkReadingUndoesWriting}
use Rattle.std.proofs.Common.{Ok, Err}

no_less : (m n : ℕ) → m ≡ n → nat_lt m n ≡ false
no_less m n e = grind (arith, nat_tests)

all_good : (m n : ℕ) → m ≤ n → nat_lt m n ≡ false → m ≡ n
all_good m n l e = grind (arith, nat_tests)

-- what a text is read as, if no byte of it is bad
pub read_good : (written : List ℕ) → good_len written ≡ length written → link_reading written ≡ link_of (link_refusal (unescaped written)) (unescaped written)
read_good written good =
    ap (λ t. cond t (Err (BadEscape (good_len written))) (link_of (link_refusal (unescaped written)) (unescaped written)))
    (no_less (good_len written) (length written) good)

-- what is read as a link's text is one
pub record IsRead (written text : List ℕ) : Type 0 where
  pub good : nat_lt (good_len written) (length written) ≡ false
  pub bytes : unescaped written ≡ text
  pub fine : link_refusal text ≡ None

pub is_read : (written text : List ℕ) → link_reading written ≡ Ok text → IsRead written text
is_read written text =
    elim (nat_lt (good_len written) (length written)) as (λ t. nat_lt (good_len written) (length written) ≡ t →
    cond t (Err (BadEscape (good_len written))) (link_of (link_refusal (unescaped written)) (unescaped written)) ≡ Ok text → IsRead written text) [
      | true ↦ λ e h. cc
      | false ↦ λ e h. unrefused e (link_refusal (unescaped written)) refl h
    ] refl
  where
    unrefused : nat_lt (good_len written) (length written) ≡ false → (f : Option LinkTextError) → link_refusal (unescaped written) ≡ f →
        link_of f (unescaped written) ≡ Ok text → IsRead written text
    unrefused e None is h = let same : unescaped written ≡ text = cc in record { good = e; bytes = same; fine = ap link_refusal (sym same) ∙ is }
    unrefused e (Some f) is h = absurd cc

module _ (undoes : UnescapingUndoesEscaping) where
  back : (text : List ℕ) → link_refusal text ≡ None → link_reading (escape text) ≡ Ok text
  back text fine =
      read_good (escape text) (undoes.good text)
      ∙ ap (λ b. link_of (link_refusal b) b) (undoes.back text)
      ∙ ap (λ f. link_of f text) fine

  one_spelling : (written text : List ℕ) → link_reading written ≡ Ok text → written ≡ escape text
  one_spelling written text h =
      let r = is_read written text h in
      sym (undoes.one_spelling written (all_good (good_len written) (length written) (undoes.within written) r.good)) ∙ ap escape r.bytes

  pub link_reading_undoes_writing : LinkReadingUndoesWriting
  link_reading_undoes_writing = record { back = back; one_spelling = one_spelling }
