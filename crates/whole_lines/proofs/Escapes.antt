-- A path in UTF-8 is written in UTF-8, and without a line feed.
use Rattle.whole_lines.proofs.Prelude.{◌≡◌, ℕ, zero, suc, ◌<◌, ◌≤◌, ◌/◌, ◌%◌, Bool, true, false, cond, ◌&&◌, eqb, nat_lt, List, [], ◌∷◌, ◌++◌, length, get_or}
use Rattle.whole_lines.proofs.Prelude.{inl, inr, refl, sym, ap₂, subst, arith, append-nil, and_parts, cases_lt, cases_eq, nat_tests, IsUtf8-append, IsUtf8-nil}
use Rattle.whole_lines.proofs.Prelude.{IsUtf8-encode, encode_ascii, inside_one, flat_map-append, scalar, scalars, encode, encodes, low_scalar, escape, escaped}
use Rattle.whole_lines.proofs.Prelude.{is_escaped, hex_digit, as_itself}
use Rattle.std.proofs.Common.{IsUtf8, ltb-true}
use Rattle.whole_lines.proofs.Words.{IsFree}

-- ---- UTF-8

ascii_then : (x : ℕ) (xs : List ℕ) → x < 128 → IsUtf8 xs → IsUtf8 (x ∷ xs)
ascii_then x xs small u = IsUtf8-append (x ∷ []) xs (subst IsUtf8 (encode_ascii x small) (IsUtf8-encode x (low_scalar x (omega arith)))) u

abbrev are_ascii : List ℕ → Bool
are_ascii [] = true
are_ascii (x ∷ xs) = nat_lt x 128 && are_ascii xs

utf8_are_ascii : (xs : List ℕ) → are_ascii xs ≡ true → IsUtf8 xs
utf8_are_ascii [] e = IsUtf8-nil
utf8_are_ascii (x ∷ xs) e = let p = and_parts _ _ e in ascii_then x xs (ltb-true _ _ p.0) (utf8_are_ascii xs p.1)

-- what the bytes below n are written as is ASCII
abbrev escapes_below : ℕ → Bool
escapes_below zero = true
escapes_below (suc n) = are_ascii (escaped n) && escapes_below n

escape_below : (n : ℕ) → escapes_below n ≡ true → (x : ℕ) → x < n → are_ascii (escaped x) ≡ true
escape_below zero e x h = absurd (omega arith)
escape_below (suc n) e x h =
    let p = and_parts _ _ e in
    elim (cases_eq x n) [ inl same ↦ rw same p.0 | inr other ↦ escape_below n p.1 x (omega arith) ]

all_ascii : escapes_below 128 ≡ true
all_ascii = refl

high_is_plain : (x : ℕ) → 128 ≤ x → is_escaped x ≡ false
high_is_plain x le = grind (arith, nat_tests)

escape_high : (xs : List ℕ) → ((k : ℕ) → k < length xs → 128 ≤ get_or xs k 0) → escape xs ≡ xs
escape_high [] h = refl
escape_high (x ∷ xs) h =
    let high : 128 ≤ x = h 0 (omega arith) in
    ap₂ (λ (a b : List ℕ). a ++ b) (as_itself x (high_is_plain x high)) (escape_high xs (λ k below. h (suc k) (omega arith)))

one_char : (c : ℕ) → scalar c ≡ true → IsUtf8 (escape (encode c))
one_char c ok = elim (cases_lt c 128) [
  | inl small ↦ rw (encode_ascii c small, append-nil) (utf8_are_ascii _ (escape_below 128 all_ascii c small))
  | inr big ↦
      let high : (k : ℕ) → k < length (encode c) → 128 ≤ get_or (encode c) k 0 = λ k below. elim (cases_lt (get_or (encode c) k 0) 128) [
        | inl low ↦ absurd (omega (arith, inside_one c [] (encode c) k (sym (append-nil _)) below low))
        | inr h ↦ h
      ] in
      subst IsUtf8 (sym (escape_high (encode c) high)) (IsUtf8-encode c ok)
]

all_chars : (cs : List ℕ) → scalars cs ≡ true → IsUtf8 (escape (encodes cs))
all_chars [] e = IsUtf8-nil
all_chars (c ∷ cs) e =
    let p = and_parts _ _ e in
    subst IsUtf8 (sym (flat_map-append escaped (encode c) (encodes cs))) (IsUtf8-append _ _ (one_char c p.0) (all_chars cs p.1))

pub utf8_escape : (path : List ℕ) → IsUtf8 path → IsUtf8 (escape path)
utf8_escape path u = subst (λ l. IsUtf8 (escape l)) u.1.1 (all_chars u.0 u.1.0)

-- ---- line feeds

pub free-append : (c : ℕ) (xs ys : List ℕ) → IsFree c xs → IsFree c ys → IsFree c (xs ++ ys)
free-append c [] ys h k = k
free-append c (x ∷ xs) ys h k = (h.0, free-append c xs ys h.1 k)

digit_free : (n : ℕ) → eqb (hex_digit n) 10 ≡ false
digit_free n = grind (arith, nat_tests)

plain_free : (x : ℕ) → is_escaped x ≡ false → eqb x 10 ≡ false
plain_free x e = grind (arith, nat_tests)

escaped_free : (x : ℕ) → IsFree 10 (escaped x)
escaped_free x = by_test (is_escaped x) refl
  where
    by_test : (t : Bool) → is_escaped x ≡ t → IsFree 10 (cond t (92 ∷ 120 ∷ hex_digit (x / 16) ∷ hex_digit (x % 16) ∷ []) (x ∷ []))
    by_test true e = (refl, (refl, (digit_free (x / 16), (digit_free (x % 16), tt))))
    by_test false e = (plain_free x e, tt)

pub escape_free : (path : List ℕ) → IsFree 10 (escape path)
escape_free [] = tt
escape_free (x ∷ xs) = free-append 10 (escaped x) (escape xs) (escaped_free x) (escape_free xs)
