-- A target's word and its reading.
use Rattle.flat_list.proofs.Prelude.{◌≡◌, Bool, true, false, cond, List, ℕ, None, refl, ap, IsUtf8, is_utf8, is_utf8-from_IsUtf8, IsUtf8-from_is_utf8}
use Rattle.flat_list.proofs.Prelude.{link_reading, link_ok}
use Rattle.flat_list.specs.Private.Reading.{target_from}

pub text_target : (word : List ℕ) → IsUtf8 word → target_from word ≡ link_ok (link_reading word)
unfolding target_from
text_target word is = ap (λ b. cond b (link_ok (link_reading word)) None) (is_utf8-from_IsUtf8 word is)

pub no_target : (word : List ℕ) → (IsUtf8 word → ⊥) → target_from word ≡ None
unfolding target_from
no_target word off = by_test (is_utf8 word) refl
  where
    by_test : (b : Bool) → is_utf8 word ≡ b → cond b (link_ok (link_reading word)) None ≡ None
    by_test true e = absurd (off (IsUtf8-from_is_utf8 word e))
    by_test false e = refl

pub ruleset target_texts = (text_target, no_target)
