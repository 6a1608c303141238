-- Printable text: where it may be read, and that reading undoes writing.
use Rattle.path_text.proofs.Prelude.{◌≡◌, ◌≢◌, ℕ, ◌+◌, ◌*◌, ◌/◌, ◌%◌, ◌<◌, ◌≤◌, Bool, true, false, not, ◌&&◌, List, [], ◌∷◌, ◌++◌, length, drop, get_or, refl}
use Rattle.path_text.proofs.Prelude.{ap, ◌∙◌, sym, subst, arith, cond, zero, suc, length-append, append_assoc, drop-cons, add-one, get_or-drop, Ok, Err, None}
use Rattle.path_text.proofs.Prelude.{Some, Option, nat_eq, nat_lt, ◌==◌, slice_index, starts_with, first_so, second_so, false≢true, nat_tests, Decides-eqb}
use Rattle.path_text.proofs.Prelude.{starts_is, IsUtf8-drop, IsCharBoundary-after_ascii, drop-append-add, get_or-append_seam, IsUtf8, IsCharBoundary, PathError}
use Rattle.path_text.proofs.Prelude.{BadEscape, refusal, hex_digit, is_escaped, escaped, escape, hex_value, told_byte, begins_escape, good_len, unescaped}
use Rattle.path_text.proofs.Prelude.{path_of, reading, ReadingUndoesWriting, UnescapingUndoesEscaping}
use Rattle.std.specs.Bool.{IsTrue}

pub as_escape : (b : ℕ) → is_escaped b ≡ true → escaped b ≡ 92 ∷ 120 ∷ hex_digit (b / 16) ∷ hex_digit (b % 16) ∷ []
as_escape b e = ap (λ t. cond t (92 ∷ 120 ∷ hex_digit (b / 16) ∷ hex_digit (b % 16) ∷ []) (b ∷ [])) e

pub as_itself : (b : ℕ) → is_escaped b ≡ false → escaped b ≡ b ∷ []
as_itself b e = ap (λ t. cond t (92 ∷ 120 ∷ hex_digit (b / 16) ∷ hex_digit (b % 16) ∷ []) (b ∷ [])) e

pub low : (b : ℕ) → is_escaped b ≡ true → b < 128
low b e = grind (arith, nat_tests)

-- a digit is written as a byte that stands for itself, and is read back
pub record IsDigit (n : ℕ) : Type 0 where
  pub plain : is_escaped (hex_digit n) ≡ false
  pub no_backslash : (hex_digit n == 92) ≡ false
  pub read : hex_value (hex_digit n) ≡ n
  pub ascii : hex_digit n < 128

digit_plain : (n : ℕ) → n < 16 → is_escaped (hex_digit n) ≡ false
digit_plain n h = grind (arith, nat_tests)

digit_no_backslash : (n : ℕ) → n < 16 → (hex_digit n == 92) ≡ false
digit_no_backslash n h = grind (arith, nat_tests)

digit_read : (n : ℕ) → n < 16 → hex_value (hex_digit n) ≡ n
digit_read n h = grind (arith, nat_tests)

digit_ascii : (n : ℕ) → n < 16 → hex_digit n < 128
digit_ascii n h = grind (arith, nat_tests)

digit : (n : ℕ) → n < 16 → IsDigit n
digit n h = record { plain = digit_plain n h; no_backslash = digit_no_backslash n h; read = digit_read n h; ascii = digit_ascii n h }

high_digit : (b : ℕ) → b < 128 → IsDigit (b / 16)
high_digit b h = digit (b / 16) (omega arith)

low_digit : (b : ℕ) → IsDigit (b % 16)
low_digit b = digit (b % 16) (omega arith)

-- a text that begins an escape is that escape, and what stands behind it
pub record Begins (behind : List ℕ) : Type 0 where
  pub high : ℕ
  pub low : ℕ
  pub is_high : IsDigit high
  pub is_low : IsDigit low
  pub told : is_escaped (told_byte (92 ∷ behind)) ≡ true
  pub text : 92 ∷ behind ≡ escaped (told_byte (92 ∷ behind)) ++ drop 3 behind
  pub digits : behind ≡ 120 ∷ hex_digit high ∷ hex_digit low ∷ drop 3 behind

begins : (behind : List ℕ) → begins_escape (92 ∷ behind) ≡ true → Begins behind
begins behind h =
    let b = told_byte (92 ∷ behind) in
    let e : is_escaped b ≡ true = first_so (is_escaped b) _ h in
    let w = as_escape b e in
    let s : 92 ∷ behind ≡ escaped b ++ drop (length (escaped b)) (92 ∷ behind) = (starts_is Decides-eqb (92 ∷ behind) (escaped b) _ refl).0
    (second_so (is_escaped b) _ h) in
    let t : 92 ∷ behind ≡ escaped b ++ drop 3 behind = s ∙ ap (λ l. escaped b ++ drop (length l) (92 ∷ behind)) w in
    record {
      high = b / 16;
      low = b % 16;
      is_high = high_digit b (low b e);
      is_low = low_digit b;
      told = e;
      text = t;
      digits = ap (drop 1) (t ∙ ap (λ l. l ++ drop 3 behind) w);
    }

good_le : (s : List ℕ) → good_len s ≤ length s
good_le [] = omega arith
good_le (b ∷ s) =
    elim (is_escaped b && not (begins_escape (b ∷ s))) as (λ t. cond t 0 (good_len s + 1) ≤ length (b ∷ s)) [
      | true ↦ omega arith
      | false ↦ omega
          (arith, good_le s)
    ]

-- the first byte of a good text is good, and so is the rest
pub good_more : (b : ℕ) (s : List ℕ) → good_len (b ∷ s) ≡ length (b ∷ s) → ((is_escaped b && not (begins_escape (b ∷ s))) ≡ false) × (good_len s ≡ length s)
good_more b s =
    elim (is_escaped b && not (begins_escape (b ∷ s))) as (λ t. cond t 0 (good_len s + 1) ≡ length (b ∷ s) → (t ≡ false) × (good_len s ≡ length s)) [
      | true ↦ λ e. absurd (omega arith)
      | false ↦ λ e. (refl, omega arith)
    ]

good_behind : (xs ys : List ℕ) → good_len (xs ++ ys) ≡ length (xs ++ ys) → good_len ys ≡ length ys
good_behind [] ys h = h
good_behind (x ∷ xs) ys h = good_behind xs ys (good_more x (xs ++ ys) h).1

turned : (a b : Bool) → (a && not b) ≡ false → a ≡ true → b ≡ true
turned true true e h = refl
turned true false e h = absurd (false≢true (sym e))
turned false b e h = absurd (false≢true h)

-- a backslash in a good text begins an escape
backslash : (behind : List ℕ) → good_len (92 ∷ behind) ≡ length (92 ∷ behind) → begins_escape (92 ∷ behind) ≡ true
backslash behind h = turned (is_escaped 92) (begins_escape (92 ∷ behind)) (good_more 92 behind h).0 refl

one : (b : ℕ) (s : List ℕ) → (b == 92) ≡ false → unescaped (b ∷ s) ≡ b ∷ unescaped s
one b s e = ap (λ t. cond t (told_byte (b ∷ s) ∷ drop 3 (unescaped s)) (b ∷ unescaped s)) e

past_digits : (h l : ℕ) (s : List ℕ) → IsDigit h → IsDigit l → drop 3 (unescaped (120 ∷ hex_digit h ∷ hex_digit l ∷ s)) ≡ unescaped s
past_digits h l s p q = ap (drop 2) (one (hex_digit h) (hex_digit l ∷ s) p.no_backslash) ∙ ap (drop 1) (one (hex_digit l) s q.no_backslash)

-- an escape is read as the byte that it tells
told_more : (behind : List ℕ) → Begins behind → unescaped (92 ∷ behind) ≡ told_byte (92 ∷ behind) ∷ unescaped (drop 3 behind)
told_more behind w = ap (λ r. told_byte (92 ∷ behind) ∷ r) (ap (λ s. drop 3 (unescaped s)) w.digits
    ∙ past_digits w.high w.low (drop 3 behind) w.is_high w.is_low)

plain_more : (xs ys : List ℕ) → ((i : ℕ) → i < length xs → get_or xs i 0 ≢ 92) → unescaped (xs ++ ys) ≡ xs ++ unescaped ys
plain_more [] ys h = refl
plain_more (x ∷ xs) ys h = one x (xs ++ ys) (other x (h 0 (omega arith))) ∙ ap (λ r. x ∷ r) (plain_more xs ys (λ i l. h (suc i) (omega arith)))
  where
    other : (x : ℕ) → x ≢ 92 → (x == 92) ≡ false
    other x h = grind (arith, nat_tests)

-- the first backslash of a good text, and what is read on from it
pub record Step (s plain behind : List ℕ) : Type 0 where
  pub escape : IsTrue (begins_escape (92 ∷ behind))
  pub good : good_len (drop 3 behind) ≡ length (drop 3 behind)
  pub read : unescaped s ≡ plain ++ (told_byte (92 ∷ behind) ∷ unescaped (drop 3 behind))
  pub long : 2 < length behind
  pub ascii : get_or behind 2 0 < 128
  pub shorter : length (drop 3 behind) < length s

pub step : (s plain behind : List ℕ) → good_len s ≡ length s → s ≡ plain ++ 92 ∷ behind → ((i : ℕ) → i < length plain → get_or plain i 0 ≢ 92) →
    Step s plain behind
step s plain behind h e none =
    let g : good_len (92 ∷ behind) ≡ length (92 ∷ behind) = good_behind plain (92 ∷ behind) (ap good_len (sym e) ∙ h ∙ ap length e) in
    let w = begins behind (backslash behind g) in
    let d : length behind ≡ 3 + length (drop 3 behind) = ap length w.digits ∙ omega arith in
    record {
      escape = backslash behind g;
      good = good_behind (120 ∷ hex_digit w.high ∷ hex_digit w.low ∷ []) (drop 3 behind)
          (ap good_len (sym w.digits) ∙ (good_more 92 behind g).1 ∙ ap length w.digits);
      read = ap unescaped e ∙ plain_more plain (92 ∷ behind) none ∙ ap (λ r. plain ++ r) (told_more behind w);
      long = omega (arith, d);
      ascii = subst (λ n. n < 128) (sym (ap (λ l. get_or l 2 0) w.digits)) w.is_low.ascii;
      shorter = omega (arith, d, ap length e, length-append plain (92 ∷ behind));
    }

-- what stands behind a backslash is text
utf8_behind : (s plain behind : List ℕ) → s ≡ plain ++ 92 ∷ behind → IsUtf8 s → IsUtf8 behind
utf8_behind s plain behind e u =
    let at : get_or s (length plain) 0 ≡ 92 = ap (λ s. get_or s (length plain) 0) e ∙ get_or-append_seam plain 92 behind 0 in
    let long : length plain < length s = omega (arith, ap length e, length-append plain (92 ∷ behind)) in
    let rest : drop (length plain + 1) s ≡ behind = ap (drop (length plain + 1)) e ∙ drop-append-add plain (92 ∷ behind) 1 in
    subst IsUtf8 rest (IsUtf8-drop s (length plain + 1) u (IsCharBoundary-after_ascii s (length plain) u long (omega (arith, at))))

-- and may be cut behind its two digits
pub cut : (s plain behind : List ℕ) → Step s plain behind → s ≡ plain ++ 92 ∷ behind → IsUtf8 s → IsCharBoundary behind 3
cut s plain behind w e u = IsCharBoundary-after_ascii behind 2 (utf8_behind s plain behind e u) w.long w.ascii

-- what was read, with one piece and one byte more
pub read_on : (old mid new s plain behind enc rest whole : List ℕ) → Step s plain behind → old ++ unescaped s ≡ whole → mid ≡ old ++ plain →
    new ≡ mid ++ enc → enc ≡ told_byte (92 ∷ behind) ∷ [] → rest ≡ drop 3 behind → new ++ unescaped rest ≡ whole
read_on old mid new s plain behind enc rest whole w h m n e r =
    (λ i. (n ∙ (λ k. m k ++ e k)) i ++ unescaped (r i)) ∙ append_assoc (old ++ plain) (told_byte (92 ∷ behind) ∷ []) (unescaped (drop 3 behind))
    ∙ append_assoc old plain (told_byte (92 ∷ behind) ∷ unescaped (drop 3 behind)) ∙ ap (λ t. old ++ t) (sym w.read) ∙ h

pub none_past : (xs : List ℕ) → ((i : ℕ) → i < length xs → get_or xs i 0 ≢ 92) → unescaped xs ≡ xs
none_past [] h = refl
none_past (x ∷ xs) h = one x xs (other x (h 0 (omega arith))) ∙ ap (λ r. x ∷ r) (none_past xs (λ i l. h (suc i) (omega arith)))
  where
    other : (x : ℕ) → x ≢ 92 → (x == 92) ≡ false
    other x h = grind (arith, nat_tests)

-- the byte that a place adds
pub good_at : (s : List ℕ) (at : ℕ) → at < length s → good_len (drop at s)
    ≡ cond (is_escaped (get_or s at 0) && not (begins_escape (drop at s))) 0 (good_len (drop (at + 1) s) + 1)
good_at s at h = ap good_len d ∙ ap (λ l. cond (is_escaped (get_or s at 0) && not (begins_escape l)) 0 (good_len (drop (at + 1) s) + 1)) (sym d)
  where
    d : drop at s ≡ get_or s at 0 ∷ drop (at + 1) s
    d = rw (add-one, drop-cons s at 0)

-- a good byte more
pub good_step : (s x : List ℕ) (at : ℕ) (r : Bool) → x ≡ drop at s → at < length s → r ≡ (is_escaped (slice_index x 0) && not (begins_escape x)) →
    r ≡ false → good_len s ≡ at + good_len (drop at s) → good_len s ≡ at + 1 + good_len (drop (at + 1) s)
good_step s x at r e h b f g =
    let head : get_or (drop at s) 0 0 ≡ get_or s at 0 = get_or-drop at s 0 0 ∙ ap (λ k. get_or s k 0) (omega arith) in
    let good : (is_escaped (get_or s at 0) && not (begins_escape (drop at s)))
    ≡ false = sym (ap (λ x. is_escaped (get_or x 0 0) && not (begins_escape x)) e
    ∙ ap (λ v. is_escaped v && not (begins_escape (drop at s))) head) ∙ sym b ∙ f in
    let next : good_len (drop at s) ≡ good_len (drop (at + 1) s) + 1 = good_at s at h ∙ ap (λ t. cond t 0 (good_len (drop (at + 1) s) + 1)) good in
    omega (arith, g, next)

-- what is written is good, and is read back
told_back : (b : ℕ) (r : List ℕ) → is_escaped b ≡ true → told_byte (92 ∷ 120 ∷ hex_digit (b / 16) ∷ hex_digit (b % 16) ∷ r) ≡ b
told_back b r e = (λ i. 16 * (high_digit b (low b e)).read i + (low_digit b).read i) ∙ omega arith

written_begins : (b : ℕ) (r : List ℕ) → is_escaped b ≡ true → begins_escape (92 ∷ 120 ∷ hex_digit (b / 16) ∷ hex_digit (b % 16) ∷ r) ≡ true
written_begins b r e =
    let s = 92 ∷ 120 ∷ hex_digit (b / 16) ∷ hex_digit (b % 16) ∷ r in
    ap (λ t. is_escaped t && starts_with nat_eq s (escaped t)) (told_back b r e)
    ∙ ap (λ t. t && starts_with nat_eq s (escaped b)) e
    ∙ (starts_is Decides-eqb s (escaped b) _ refl).1 r (ap (λ l. l ++ r) (sym (as_escape b e)))

good_one : (b : ℕ) (s : List ℕ) → (is_escaped b && not (begins_escape (b ∷ s))) ≡ false → good_len s ≡ length s → good_len (b ∷ s) ≡ length (b ∷ s)
good_one b s e h = ap (λ t. cond t 0 (good_len s + 1)) e ∙ omega (arith, h)

good_plain : (b : ℕ) (s : List ℕ) → is_escaped b ≡ false → good_len s ≡ length s → good_len (b ∷ s) ≡ length (b ∷ s)
good_plain b s e h = good_one b s (ap (λ t. t && not (begins_escape (b ∷ s))) e) h

record ReadBack (p text : List ℕ) : Type 0 where
  good : good_len text ≡ length text
  read : unescaped text ≡ p

not_backslash : (b : ℕ) → is_escaped b ≡ false → (b == 92) ≡ false
not_backslash b e = grind (arith, nat_tests)

escape_back : (b : ℕ) (p text : List ℕ) → is_escaped b ≡ true → ReadBack p text → ReadBack (b ∷ p) (92 ∷ 120 ∷ hex_digit (b / 16) ∷ hex_digit (b % 16) ∷ text)
escape_back b p text e w =
    let h = high_digit b (low b e) in
    let l = low_digit b in
    record {
      good = good_one 92 (120 ∷ hex_digit (b / 16) ∷ hex_digit (b % 16) ∷ text) (ap (λ t. is_escaped 92 && not t) (written_begins b text e))
          (good_plain 120 (hex_digit (b / 16) ∷ hex_digit (b % 16) ∷ text) refl
          (good_plain (hex_digit (b / 16)) (hex_digit (b % 16) ∷ text) h.plain (good_plain (hex_digit (b % 16)) text l.plain w.good)));
      read = (λ i. told_back b text e i ∷ past_digits (b / 16) (b % 16) text h l i) ∙ ap (λ r. b ∷ r) w.read;
    }

plain_back : (b : ℕ) (p text : List ℕ) → is_escaped b ≡ false → ReadBack p text → ReadBack (b ∷ p) (b ∷ text)
plain_back b p text e w = record {
  good = good_plain b text e w.good;
  read = one b text (not_backslash b e) ∙ ap (λ r. b ∷ r) w.read;
}

read_back : (p : List ℕ) → ReadBack p (escape p)
read_back [] = record { good = refl; read = refl }
read_back (b ∷ p) =
    elim (is_escaped b) as (λ t. is_escaped b ≡ t → ReadBack (b ∷ p) (escaped b ++ escape p)) [
      | true ↦ λ e. subst (λ l. ReadBack (b ∷ p) (l ++ escape p)) (sym (as_escape b e)) (escape_back b p (escape p) e (read_back p))
      | false ↦ λ e. subst (λ l. ReadBack (b ∷ p) (l ++ escape p)) (sym (as_itself b e)) (plain_back b p (escape p) e (read_back p))
    ] refl

no_less : (n : ℕ) → nat_lt n n ≡ false
no_less n = grind (arith, nat_tests)

-- a text in which each byte stands for itself is read as it stands
pub reads_itself : (text : List ℕ) → escape text ≡ text → reading text ≡ path_of (refusal text) text
reads_itself text e =
    let w = read_back text in
    let good : good_len text ≡ length text = ap good_len (sym e) ∙ w.good ∙ ap length e in
    let all : nat_lt (good_len text) (length text) ≡ false = ap (λ n. nat_lt n (length text)) good ∙ no_less (length text) in
    ap (λ b. cond b (Err (BadEscape (good_len text))) (path_of (refusal (unescaped text)) (unescaped text))) all
    ∙ ap (λ s. path_of (refusal s) s) (ap unescaped (sym e) ∙ w.read)

-- a good text is what is written for the bytes that it is read as
pub spelled : (n : ℕ) (s : List ℕ) → length s ≤ n → good_len s ≡ length s → s ≡ escape (unescaped s)
spelled n [] l h = refl
spelled zero (b ∷ s) l h = absurd (omega arith)
spelled (suc n) (b ∷ s) l h =
    elim (b == 92) as (λ t. (b == 92) ≡ t → b ∷ s ≡ escape (cond t (told_byte (b ∷ s) ∷ drop 3 (unescaped s)) (b ∷ unescaped s))) [
      | true ↦ λ e. at_backslash n b s (is_it b e) (omega arith) h (spelled n)
      | false ↦ λ e. ap (λ l. b ∷ l) (spelled n s (omega arith) (good_more b s h).1)
          ∙ ap (λ l. l ++ escape (unescaped s)) (sym (as_itself b (raw b s e (good_more b s h).0)))
    ] refl
  where
    is_it : (b : ℕ) → (b == 92) ≡ true → b ≡ 92
    is_it b e = grind (arith, nat_tests)

    at_92 : (n : ℕ) (s : List ℕ) → length s ≤ n → good_len (92 ∷ s) ≡ length (92 ∷ s) →
        ((s : List ℕ) → length s ≤ n → good_len s ≡ length s → s ≡ escape (unescaped s)) → 92 ∷ s ≡ escape (told_byte (92 ∷ s) ∷ drop 3 (unescaped s))
    at_92 n s l h rest =
        let w = step (92 ∷ s) [] s h refl (λ i m. absurd (omega arith)) in
        let v = begins s (backslash s h) in
        v.text ∙ ap (λ r. escaped (told_byte (92 ∷ s)) ++ r) (rest (drop 3 s) (omega (arith, w.shorter)) w.good) ∙ ap escape (sym (told_more s v))

    at_backslash : (n b : ℕ) (s : List ℕ) → b ≡ 92 → length s ≤ n → good_len (b ∷ s) ≡ length (b ∷ s) →
        ((s : List ℕ) → length s ≤ n → good_len s ≡ length s → s ≡ escape (unescaped s)) → b ∷ s ≡ escape (told_byte (b ∷ s) ∷ drop 3 (unescaped s))
    at_backslash n b s e l h rest = subst (λ b. good_len (b ∷ s) ≡ length (b ∷ s) → b ∷ s ≡ escape (told_byte (b ∷ s) ∷ drop 3 (unescaped s))) (sym e)
        (λ h. at_92 n s l h rest) h

    -- a byte that is no backslash begins no escape
    raw : (b : ℕ) (s : List ℕ) → (b == 92) ≡ false → (is_escaped b && not (begins_escape (b ∷ s))) ≡ false → is_escaped b ≡ false
    raw b s e h =
        elim (is_escaped b) as (λ t. is_escaped b ≡ t → t ≡ false) [
          | true ↦ λ f. absurd (begins_other b s e (turned (is_escaped b) (begins_escape (b ∷ s)) h f))
          | false ↦ λ f. refl
        ] refl
      where
        head : (b c : ℕ) (xs ys : List ℕ) → b ∷ xs ≡ c ∷ ys → b ≡ c
        head b c xs ys e = ap (λ l. get_or l 0 0) e

        begins_other : (b : ℕ) (s : List ℕ) → (b == 92) ≡ false → begins_escape (b ∷ s) ≡ true → ⊥
        begins_other b s e h =
            let t = told_byte (b ∷ s) in
            let f : is_escaped t ≡ true = first_so (is_escaped t) _ h in
            let d : b ≡ 92 = head b 92 _ _ ((starts_is Decides-eqb (b ∷ s) (escaped t) _ refl).0 (second_so (is_escaped t) _ h)
            ∙ ap (λ l. l ++ drop (length (escaped t)) (b ∷ s)) (as_escape t f)) in
            false≢true (sym e ∙ ap (λ b. b == 92) d)

-- what a text is read as, if no byte of it is bad
pub read_good : (s : List ℕ) → good_len s ≡ length s → reading s ≡ path_of (refusal (unescaped s)) (unescaped s)
read_good s h = ap (λ t. cond t (Err (BadEscape (good_len s))) (path_of (refusal (unescaped s)) (unescaped s))) (all_good (good_len s) (length s) h)
  where
    all_good : (m n : ℕ) → m ≡ n → nat_lt m n ≡ false
    all_good m n e = grind (arith, nat_tests)

read_as : (text path : List ℕ) → reading text ≡ Ok path →
    (good_len text ≡ length text) × ((unescaped text ≡ path) × (refusal (unescaped text) ≡ None))
read_as text path =
    elim (nat_lt (good_len text) (length text)) as (λ t. nat_lt (good_len text) (length text) ≡ t →
    cond t (Err (BadEscape (good_len text))) (path_of (refusal (unescaped text)) (unescaped text)) ≡ Ok path →
    (good_len text ≡ length text) × ((unescaped text ≡ path) × (refusal (unescaped text) ≡ None))) [
      | true ↦ λ e h. cc
      | false ↦ λ e h. (all_good (good_len text) (length text) (good_le text) e, unrefused (refusal (unescaped text)) (unescaped text) path h)
    ] refl
  where
    all_good : (m n : ℕ) → m ≤ n → nat_lt m n ≡ false → m ≡ n
    all_good m n l e = grind (arith, nat_tests)

    unrefused : (f : Option PathError) (bytes path : List ℕ) → path_of f bytes ≡ Ok path → (bytes ≡ path) × (f ≡ None)
    unrefused None bytes path e = (cc, refl)
    unrefused (Some f) bytes path e = cc

-- what is read as a path is one
pub read_is_path : (text path : List ℕ) → reading text ≡ Ok path → refusal path ≡ None
read_is_path text path h = let w = (read_as text path h).1 in ap refusal (sym w.0) ∙ w.1

pub reading_undoes_writing : ReadingUndoesWriting
reading_undoes_writing = record {
  back = λ p h. let w = read_back p in read_good (escape p) w.good ∙ ap (λ b. path_of (refusal b) b) w.read ∙ ap (λ f. path_of f p) h;
  one_spelling = λ text p h. let w = read_as text p h in spelled (length text) text (omega arith) w.0 ∙ ap escape w.1.0;
}

pub unescaping_undoes_escaping : UnescapingUndoesEscaping
unescaping_undoes_escaping = record {
  within = good_le;
  good = λ bytes. (read_back bytes).good;
  back = λ bytes. (read_back bytes).read;
  one_spelling = λ text h. sym (spelled (length text) text (omega arith) h);
}
