-- What is read off printable text is so of the bytes that it stands for.
use Rattle.path_text.proofs.Prelude.{◌≡◌, ℕ, ◌+◌, ◌*◌, ◌/◌, ◌%◌, ◌<◌, ◌≤◌, Bool, true, false, ◌&&◌, ◌||◌, List, [], ◌∷◌, ◌++◌, map, length, drop, refl, ap, ◌∙◌}
use Rattle.path_text.proofs.Prelude.{sym, subst, arith, cond, Some, None, get_or, add-one, drop-cons, nat_le, ◌==◌, is_none, list_any, list_all, count_by}
use Rattle.path_text.proofs.Prelude.{slice_split, onto_first, sum_by-cons, nat_tests, EmptyName, DotName, Nul, is_slash, name_fault, first_fault, refusal}
use Rattle.path_text.proofs.Prelude.{has_zero, hex_digit, is_escaped, escaped, escape, good_len, unescaped, is_backslash, begins_nul, tells_nul, written_fault}
use Rattle.path_text.proofs.Prelude.{first_written}
use Rattle.path_text.proofs.Readable.{as_escape, as_itself, low, spelled, good_more}
use Rattle.path_text.proofs.Joined.{some_part}

abbrev digits : ℕ → List ℕ → List ℕ
digits b s = 92 ∷ 120 ∷ hex_digit (b / 16) ∷ hex_digit (b % 16) ∷ s

-- a digit is neither a backslash nor a slash
no_backslash : (n : ℕ) → n < 16 → is_backslash (hex_digit n) ≡ false
no_backslash n h = grind (arith, nat_tests)

no_slash : (n : ℕ) → n < 16 → is_slash (hex_digit n) ≡ false
no_slash n h = grind (arith, nat_tests)

plain_backslash : (b : ℕ) → is_escaped b ≡ false → is_backslash b ≡ false
plain_backslash b e = grind (arith, nat_tests)

-- a statement of the written text of a byte and more, by its two cases
by_byte : (P : List ℕ → Type 0) (b : ℕ) (s : List ℕ) → (is_escaped b ≡ true → P (digits b s)) → (is_escaped b ≡ false → P (b ∷ s)) → P (escaped b ++ s)
by_byte P b s f g =
    elim (is_escaped b) as (λ t. is_escaped b ≡ t → P (escaped b ++ s)) [
      | true ↦ λ e. subst (λ l. P (l ++ s)) (sym (as_escape b e)) (f e)
      | false ↦ λ e. subst (λ l. P (l ++ s)) (sym (as_itself b e)) (g e)
    ] refl

counted : (b : ℕ) (s : List ℕ) → count_by is_backslash (b ∷ s) ≡ cond (is_backslash b) 1 0 + count_by is_backslash s
counted b s = sum_by-cons (λ b. cond (is_backslash b) 1 0) b s

uncounted : (b : ℕ) (s : List ℕ) → is_backslash b ≡ false → count_by is_backslash (b ∷ s) ≡ count_by is_backslash s
uncounted b s e = counted b s ∙ ap (λ t. cond t 1 0 + count_by is_backslash s) e ∙ omega arith

escape_counted : (b : ℕ) (s : List ℕ) → is_escaped b ≡ true → count_by is_backslash (digits b s) ≡ 1 + count_by is_backslash s
escape_counted b s e =
    let ends = hex_digit (b % 16) ∷ s in
    let both = hex_digit (b / 16) ∷ ends in
    counted 92 (120 ∷ both)
    ∙ ap (λ n. 1 + n) (uncounted 120 both refl ∙ uncounted (hex_digit (b / 16)) ends (no_backslash (b / 16) (omega (arith, low b e)))
    ∙ uncounted (hex_digit (b % 16)) s (no_backslash (b % 16) (omega arith)))

length_escape : (p : List ℕ) → length (escape p) ≡ length p + 3 * count_by is_backslash (escape p)
length_escape [] = refl
length_escape (b ∷ p) =
    by_byte (λ s. length s ≡ length (b ∷ p) + 3 * count_by is_backslash s) b (escape p)
    (λ e. omega (arith, length_escape p, escape_counted b (escape p) e))
    (λ e. omega (arith, length_escape p, uncounted b (escape p) (plain_backslash b e)))

-- how long what a text stands for is
pub told_length : (s : List ℕ) → good_len s ≡ length s → length s ≡ length (unescaped s) + 3 * count_by is_backslash s
told_length s h =
    let e = spelled (length s) s (omega arith) h in
    ap length e ∙ length_escape (unescaped s) ∙ ap (λ t. length (unescaped s) + 3 * count_by is_backslash t) (sym e)

-- the byte 0
nul_digits : (b d m : ℕ) → b ≡ 16 * d + m → d < 16 → m < 16 → ((48 == hex_digit d) && ((48 == hex_digit m) && true)) ≡ (b == 0)
nul_digits b d m e h l = grind (arith, nat_tests)

begins_other : (b : ℕ) (s : List ℕ) → is_backslash b ≡ false → begins_nul (b ∷ s) ≡ false
begins_other b s e = grind (arith, nat_tests)

past : (b : ℕ) (s : List ℕ) → is_backslash b ≡ false → tells_nul (b ∷ s) ≡ tells_nul s
past b s e = ap (λ t. t || tells_nul s) (begins_other b s e)

past_digits : (b : ℕ) (s : List ℕ) → is_escaped b ≡ true → tells_nul (digits b s) ≡ ((b == 0) || tells_nul s)
past_digits b s e =
    (λ i. nul_digits b (b / 16) (b % 16) (omega arith) (omega (arith, low b e)) (omega arith) i || (past 120 (hex_digit (b / 16) ∷ hex_digit (b % 16) ∷ s) refl
    ∙ past (hex_digit (b / 16)) (hex_digit (b % 16) ∷ s) (no_backslash (b / 16) (omega (arith, low b e)))
    ∙ past (hex_digit (b % 16)) s (no_backslash (b % 16) (omega arith))) i)

plain_nul : (b : ℕ) → is_escaped b ≡ false → (b == 0) ≡ false
plain_nul b e = grind (arith, nat_tests)

nul_told : (p : List ℕ) → tells_nul (escape p) ≡ list_any (λ b. b == 0) p
nul_told [] = refl
nul_told (b ∷ p) =
    by_byte (λ s. tells_nul s ≡ list_any (λ b. b == 0) (b ∷ p)) b (escape p)
    (λ e. past_digits b (escape p) e ∙ ap (λ t. (b == 0) || t) (nul_told p))
    (λ e. past b (escape p) (plain_backslash b e) ∙ nul_told p ∙ ap (λ t. t || list_any (λ b. b == 0) p) (sym (plain_nul b e)))

-- the same of a whole text
pub zero_told : (s : List ℕ) → good_len s ≡ length s → tells_nul s ≡ has_zero (unescaped s)
zero_told s h = ap tells_nul (spelled (length s) s (omega arith) h) ∙ nul_told (unescaped s)

-- dots
escaped_dot : (b : ℕ) → is_escaped b ≡ true → (b == 46) ≡ false
escaped_dot b e = grind (arith, nat_tests)

plain_dot : (b : ℕ) → (b == 46) ≡ true → is_escaped b ≡ false
plain_dot b e = grind (arith, nat_tests)

dots_told : (p : List ℕ) → list_all (λ b. b == 46) (escape p) ≡ list_all (λ b. b == 46) p
dots_told [] = refl
dots_told (b ∷ p) =
    by_byte (λ s. list_all (λ b. b == 46) s ≡ list_all (λ b. b == 46) (b ∷ p)) b (escape p)
    (λ e. ap (λ t. t && list_all (λ b. b == 46) p) (sym (escaped_dot b e)))
    (λ e. ap (λ t. (b == 46) && t) (dots_told p))

pub both : (a b : Bool) → (a && b) ≡ true → (a ≡ true) × (b ≡ true)
both true b e = (refl, e)
both false b e = cc

dots_plain : (p : List ℕ) → list_all (λ b. b == 46) p ≡ true → escape p ≡ p
dots_plain [] h = refl
dots_plain (b ∷ p) h =
    let w = both (b == 46) (list_all (λ b. b == 46) p) h in
    (λ i. as_itself b (plain_dot b w.0) i ++ dots_plain p w.1 i)

pub and_false : (a : Bool) → (a && false) ≡ false
and_false true = refl
and_false false = refl

few_dots : (p : List ℕ) → (nat_le (length (escape p)) 2 && list_all (λ b. b == 46) (escape p)) ≡ (nat_le (length p) 2 && list_all (λ b. b == 46) p)
few_dots p =
    elim (list_all (λ b. b == 46) p) as (λ t. list_all (λ b. b == 46) p ≡ t →
    (nat_le (length (escape p)) 2 && list_all (λ b. b == 46) (escape p)) ≡ (nat_le (length p) 2 && list_all (λ b. b == 46) p)) [
      | true ↦ λ e. ap (λ s. nat_le (length s) 2 && list_all (λ b. b == 46) s) (dots_plain p e)
      | false ↦ λ e. ap (λ t. nat_le (length (escape p)) 2 && t) (dots_told p ∙ e) ∙ and_false _ ∙ sym (and_false (nat_le (length p) 2))
          ∙ ap (λ t. nat_le (length p) 2 && t) (sym e)
    ] refl

pub some_length : (s : List ℕ) → 0 < length s → (length s == 0) ≡ false
some_length s h = grind (arith, nat_tests)

empty_told : (p : List ℕ) → (length (escape p) == 0) ≡ (length p == 0)
empty_told [] = refl
empty_told (b ∷ p) =
    by_byte (λ s. (length s == 0) ≡ (length (b ∷ p) == 0)) b (escape p)
    (λ e. some_length (digits b (escape p)) (omega arith) ∙ sym (some_length (b ∷ p) (omega arith)))
    (λ e. some_length (b ∷ escape p) (omega arith) ∙ sym (some_length (b ∷ p) (omega arith)))

fault_told : (p : List ℕ) → written_fault (escape p) ≡ name_fault p
fault_told p = (λ i. cond (empty_told p i) (Some EmptyName) (cond (few_dots p i) (Some DotName) (cond (nul_told p i) (Some Nul) None)))

faults_told : (names : List (List ℕ)) → first_written (map escape names) ≡ first_fault names
faults_told [] = refl
faults_told (n ∷ names) = (λ i. cond (is_none (fault_told n i)) (faults_told names i) (fault_told n i))

-- the names
onto_digits : (b : ℕ) (names : List (List ℕ)) → 0 < length names → is_escaped b ≡ true →
    onto_first 92 (onto_first 120 (onto_first (hex_digit (b / 16)) (onto_first (hex_digit (b % 16)) (map escape names)))) ≡ map escape (onto_first b names)
onto_digits b [] h e = absurd (omega arith)
onto_digits b (n ∷ names) h e = ap (λ l. (l ++ escape n) ∷ map escape names) (sym (as_escape b e))

onto_plain : (b : ℕ) (names : List (List ℕ)) → 0 < length names → is_escaped b ≡ false → onto_first b (map escape names) ≡ map escape (onto_first b names)
onto_plain b [] h e = absurd (omega arith)
onto_plain b (n ∷ names) h e = ap (λ l. (l ++ escape n) ∷ map escape names) (sym (as_itself b e))

onto : (b : ℕ) (s : List ℕ) → is_slash b ≡ false → slice_split is_slash (b ∷ s) ≡ onto_first b (slice_split is_slash s)
onto b s e = ap (λ t. cond t ([] ∷ slice_split is_slash s) (onto_first b (slice_split is_slash s))) e

slash_byte : (b : ℕ) → is_escaped b ≡ true → is_slash b ≡ false
slash_byte b e = grind (arith, nat_tests)

split_digits : (b : ℕ) (s : List ℕ) → is_escaped b ≡ true →
    slice_split is_slash (digits b s) ≡ onto_first 92 (onto_first 120 (onto_first (hex_digit (b / 16))
    (onto_first (hex_digit (b % 16)) (slice_split is_slash s))))
split_digits b s e =
    let high = onto (hex_digit (b / 16)) (hex_digit (b % 16) ∷ s) (no_slash (b / 16) (omega (arith, low b e))) in
    let low = onto (hex_digit (b % 16)) s (no_slash (b % 16) (omega arith)) in
    ap (λ l. onto_first 92 (onto_first 120 l)) (high ∙ ap (onto_first (hex_digit (b / 16))) low)

split_plain : (b : ℕ) (s : List ℕ) (names : List (List ℕ)) → 0 < length names → is_escaped b ≡ false → slice_split is_slash s ≡ map escape names →
    slice_split is_slash (b ∷ s) ≡ map escape (cond (is_slash b) ([] ∷ names) (onto_first b names))
split_plain b s names h e w =
    elim (is_slash b) as (λ t. cond t ([] ∷ slice_split is_slash s) (onto_first b (slice_split is_slash s))
    ≡ map escape (cond t ([] ∷ names) (onto_first b names))) [
      | true ↦ ap (λ l. [] ∷ l) w
      | false ↦ ap (onto_first b) w ∙ onto_plain b names h e
    ]

names_told : (p : List ℕ) → slice_split is_slash (escape p) ≡ map escape (slice_split is_slash p)
names_told [] = refl
names_told (b ∷ p) =
    by_byte (λ s. slice_split is_slash s ≡ map escape (slice_split is_slash (b ∷ p))) b (escape p)
    (λ e. split_digits b (escape p) e ∙ ap (λ l. onto_first 92 (onto_first 120
    (onto_first (hex_digit (b / 16)) (onto_first (hex_digit (b % 16)) l)))) (names_told p)
    ∙ onto_digits b (slice_split is_slash p) (some_part p) e ∙ ap (map escape) (sym (onto b p (slash_byte b e))))
    (λ e. split_plain b (escape p) (slice_split is_slash p) (some_part p) e (names_told p))

-- the whole
opened : (q : List ℕ) → length q + 1 ≤ 4095 → 0 < length q → refusal (47 ∷ q) ≡ first_fault (slice_split is_slash q)
opened q l h = grind (arith, nat_tests)

behind_slash : (bytes : List ℕ) → good_len bytes ≡ length bytes → length (unescaped bytes) + 1 ≤ 4095 → 0 < length bytes →
    first_written (slice_split is_slash bytes) ≡ refusal (47 ∷ unescaped bytes)
behind_slash bytes h l m =
    let e = spelled (length bytes) bytes (omega arith) h in
    ap (λ s. first_written (slice_split is_slash s)) e ∙ ap first_written (names_told (unescaped bytes)) ∙ faults_told (slice_split is_slash (unescaped bytes))
    ∙ sym (opened (unescaped bytes) l (some (unescaped bytes) e))
  where
    some : (q : List ℕ) → bytes ≡ escape q → 0 < length q
    some [] e = absurd (omega (arith, ap length e))
    some (b ∷ q) e = omega arith

pub refusal_told : (text bytes : List ℕ) (b : ℕ) → text ≡ b ∷ bytes → b ≡ 47 → good_len text ≡ length text → length (unescaped text) ≤ 4095 →
    0 < length bytes → first_written (slice_split is_slash bytes) ≡ refusal (unescaped text)
refusal_told text bytes b e d h l m =
    let s : text ≡ 47 ∷ bytes = e ∙ ap (λ b. b ∷ bytes) d in
    let g : good_len (47 ∷ bytes) ≡ length (47 ∷ bytes) = ap good_len (sym s) ∙ h ∙ ap length s in
    behind_slash bytes (good_more 47 bytes g).1 (omega (arith, ap (λ t. length (unescaped t)) s)) m ∙ ap (λ t. refusal (unescaped t)) (sym s)

-- one place further
pub nul_behind : (s : List ℕ) (at : ℕ) → at < length s → begins_nul (drop at s) ≡ false → tells_nul (drop at s) ≡ tells_nul (drop (at + 1) s)
nul_behind s at h e =
    let d : drop at s ≡ get_or s at 0 ∷ drop (at + 1) s = rw (add-one, drop-cons s at 0) in
    ap tells_nul d ∙ ap (λ t. t || tells_nul (drop (at + 1) s)) (ap begins_nul (sym d) ∙ e)
