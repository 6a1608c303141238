-- A word and its reading.
use Rattle.whole_lines.proofs.Prelude.{◌≡◌, ℕ, suc, ◌+◌, ◌<◌, Bool, true, false, not, cond, ltb, eqb, List, [], ◌∷◌, ◌++◌, length, get_or, take, drop, Option}
use Rattle.whole_lines.proofs.Prelude.{Some, None, refl, ap, sym, ◌∙◌, subst, arith, add-one, position, position_or_len, AllByRecursion, ltb-false, le-ltb}
use Rattle.whole_lines.proofs.Prelude.{false_from_ne_true, nat_tests, take-append-drop, get_or-take, length-take, position-Some, recursion_from_All}
use Rattle.whole_lines.proofs.Prelude.{get_or_default_zero, drop-cons, IsFirstByte, is_byte, ◌>>=◌, onto_word, exact_unsigned_eq}
use Rattle.whole_lines.specs.Words.{cut, word_at}

-- the byte is not among them
abbrev pub IsFree : ℕ → List ℕ → Type 0
IsFree c word = AllByRecursion (λ b. eqb b c ≡ false) word

pub eqb_same : (n : ℕ) → eqb n n ≡ true
eqb_same n = grind (arith, nat_tests)

pub cut_again : (c : ℕ) (word rest : List ℕ) → IsFree c word → cut c (word ++ c ∷ rest) ≡ Some (word, rest)
unfolding cut
cut_again c [] rest free = ap (λ b. cond b (Some ([], rest)) (onto_word c (cut c rest))) (eqb_same c)
cut_again c (b ∷ word) rest free =
    ap (λ t. cond t (Some ([], word ++ c ∷ rest)) (onto_word b (cut c (word ++ c ∷ rest)))) free.0
    ∙ ap (onto_word b) (cut_again c word rest free.1)

-- what was cut
pub record IsCut (c : ℕ) (text word rest : List ℕ) : Type 0 where
  pub parts : text ≡ word ++ c ∷ rest
  pub free : IsFree c word

pair_parts : {A B : Type 0} (p q : A × B) → Some p ≡ Some q → (p.0 ≡ q.0) × (p.1 ≡ q.1)
pair_parts p q e = let same : p ≡ q = cc in (ap (λ r. r.0) same, ap (λ r. r.1) same)

onto_some : (b : ℕ) (o : Option (List ℕ × List ℕ)) (word rest : List ℕ) → onto_word b o ≡ Some (word, rest) →
    (front : List ℕ) × (o ≡ Some (front, rest)) × (word ≡ b ∷ front)
onto_some b None word rest e = absurd cc
onto_some b (Some p) word rest e =
    let same = pair_parts (b ∷ p.0, p.1) (word, rest) e in
    (p.0, ap (λ r. Some (p.0, r)) same.1, sym same.0)

cut_here : (c b : ℕ) (text word rest : List ℕ) → eqb b c ≡ true → ◌≡◌ {A = Option (List ℕ × List ℕ)} (Some ([], text)) (Some (word, rest)) →
    IsCut c (b ∷ text) word rest
cut_here c b text word rest is e =
    let same = pair_parts ([], text) (word, rest) e in
    record {
      parts = ap (λ b. b ∷ text) (exact_unsigned_eq b c is) ∙ ap (λ t. c ∷ t) same.1 ∙ ap (λ w. w ++ c ∷ rest) same.0;
      free = subst
          (IsFree c) same.0 tt;
    }

cut_later : (c b : ℕ) (text word rest front : List ℕ) → eqb b c ≡ false → IsCut c text front rest → word ≡ b ∷ front → IsCut c (b ∷ text) word rest
cut_later c b text word rest front is before e =
    record { parts = ap (λ t. b ∷ t) before.parts ∙ ap (λ w. w ++ c ∷ rest) (sym e); free = subst (IsFree c) (sym e) (is, before.free) }

pub cut_takes : (c : ℕ) (text word rest : List ℕ) → cut c text ≡ Some (word, rest) → IsCut c text word rest
unfolding cut
cut_takes c [] word rest e = absurd cc
cut_takes c (b ∷ text) word rest e =
    elim (eqb b c) as (λ t. eqb b c ≡ t → cond t (Some ([], text)) (onto_word b (cut c text)) ≡ Some (word, rest) → IsCut c (b ∷ text) word rest) [
      | true ↦ λ is e. cut_here c b text word rest is e
      | false ↦ λ is e.
          let found = onto_some b (cut c text) word rest e in
          cut_later c b text word rest found.0 is (cut_takes c text found.0 rest found.1) found.2
    ] refl e

-- the place of the byte, as the code finds it

-- a place of the byte before which none is
pub cut_at : (c : ℕ) (text : List ℕ) (k : ℕ) → k < length text → get_or text k 0 ≡ c → ((j : ℕ) → j < k → eqb (get_or text j 0) c ≡ false) →
    cut c text ≡ Some (take k text, drop (k + 1) text)
cut_at c text k lt byte none =
    let free : IsFree c (take k text) = recursion_from_All (λ b. eqb b c ≡ false) (take k text) (λ j d below. before j d (omega (arith, length-take k text))) in
    let parts : text ≡ take k text ++ c ∷ drop (k + 1) text = sym (take-append-drop k text)
    ∙ ap (λ l. take k text ++ l) (rw (add-one) (drop-cons text k 0 lt) ∙ ap (λ b. b ∷ drop (k + 1) text) byte) in
    ap (cut c) parts ∙ cut_again c (take k text) (drop (k + 1) text) free
  where
    before : (j d : ℕ) → j < k → eqb (get_or (take k text) j d) c ≡ false
    before j d below = ap (λ b. eqb b c) (get_or-take k text j d below ∙ get_or_default_zero text j d (omega (arith, lt, below))) ∙ none j below

pub placed_some : (c : ℕ) (text : List ℕ) (k : ℕ) → position (λ b. eqb b c) text ≡ Some k →
    (k < length text) × (cut c text ≡ Some (take k text, drop (k + 1) text))
placed_some c text k e =
    let at = position-Some (λ b. eqb b c) text k 0 e in
    (at.0, cut_at c text k at.0 (exact_unsigned_eq (get_or text k 0) c at.1) at.2)

no_place : (c : ℕ) (text : List ℕ) → ltb (position_or_len (λ b. eqb b c) text) (length text) ≡ false → cut c text ≡ None
unfolding cut
no_place c [] e = refl
no_place c (b ∷ text) e = elim (eqb b c) as
    (λ t. eqb b c ≡ t → ltb (cond (not t) (1 + position_or_len (λ b. eqb b c) text) 0) (suc (length text)) ≡ false →
    cond t (Some ([], text)) (onto_word b (cut c text)) ≡ None) [
      | true ↦ λ is f. absurd (none_below f)
      | false ↦ λ is f. ap (onto_word b) (no_place c text (one_less (position_or_len (λ b. eqb b c) text) (length text) f))
    ] refl e
  where
    none_below : ltb 0 (suc (length text)) ≡ false → ⊥
    none_below f = let g = ltb-false 0 (suc (length text)) f in omega arith

    one_less : (m n : ℕ) → ltb (1 + m) (suc n) ≡ false → ltb m n ≡ false
    one_less m n f = let g = ltb-false (1 + m) (suc n) f in le-ltb m n (omega arith)

pub placed_none : (c : ℕ) (text : List ℕ) → position (λ b. eqb b c) text ≡ None → cut c text ≡ None
placed_none c text e = no_place c text (by_test (ltb (position_or_len (λ b. eqb b c) text) (length text)) refl e)
  where
    by_test : (t : Bool) → ltb (position_or_len (λ b. eqb b c) text) (length text) ≡ t → cond t (Some (position_or_len (λ b. eqb b c) text)) None ≡ None →
        ltb (position_or_len (λ b. eqb b c) text) (length text) ≡ false
    by_test true is e = absurd cc
    by_test false is e = is

-- ---- the first place of the byte, as it is sought many bytes at a time

pub first_some : (c : ℕ) (text : List ℕ) (k : ℕ) → IsFirstByte (is_byte c) text (Some k) →
    (k < length text) × (cut c text ≡ Some (take k text, drop (k + 1) text))
first_some c text k first =
    let lt : k < length text = first.0.high in (
      lt,
      cut_at c text k lt (exact_unsigned_eq (get_or text k 0) c first.1)
          (λ j below. false_from_ne_true (eqb (get_or text j 0) c) (first.0.before j (omega arith) below)),
    )

pub first_none : (c : ℕ) (text : List ℕ) → IsFirstByte (is_byte c) text None → cut c text ≡ None
unfolding cut
first_none c [] none = refl
first_none c (b ∷ text) none =
    ap (λ t. cond t (Some ([], text)) (onto_word b (cut c text))) (false_from_ne_true (eqb b c) (none 0 (omega arith) (omega arith)))
    ∙ ap (onto_word b) (first_none c text (λ j low below. none (suc j) (omega arith) (omega (arith, below))))

pub ruleset firsts = (first_some, first_none)

pub ruleset places = (placed_some, placed_none)

-- ---- a word before a space

-- the step of a reading that found something
pub bind_some : {A B : Type 0} (o : Option A) (f : A → Option B) (y : B) → (o >>= f) ≡ Some y → (x : A) × (o ≡ Some x) × (f x ≡ Some y)
bind_some None f y e = absurd cc
bind_some (Some x) f y e = (x, refl, e)

pub pair_is : {A B : Type 0} (a c : A) (b d : B) → ◌≡◌ {A = Option (A × B)} (Some (a, b)) (Some (c, d)) → (a ≡ c) × (b ≡ d)
pair_is {A} {B} a c b d e = let same : ◌≡◌ {A = A × B} (a, b) (c, d) = cc in (ap (λ r. r.0) same, ap (λ r. r.1) same)

pub record IsWord {A : Type 0} (read : List ℕ → Option A) (text : List ℕ) (x : A) (rest : List ℕ) : Type 0 where
  pub word : List ℕ
  pub parts : text ≡ word ++ 32 ∷ rest
  pub value : read word ≡ Some x

pub word_takes : {A : Type 0} (read : List ℕ → Option A) (text : List ℕ) (x : A) (rest : List ℕ) → word_at read text ≡ Some (x, rest) → IsWord read text x rest
unfolding word_at
word_takes {A} read text x rest e =
    let w = bind_some (cut 32 text) (λ w. read w.0 >>= λ v. Some (v, w.1)) (x, rest) e in
    let v = bind_some (read w.0.0) (λ v. Some (v, w.0.1)) (x, rest) w.2 in
    let same = pair_is v.0 x w.0.1 rest v.2 in
    let parts = cut_takes 32 text w.0.0 w.0.1 w.1 in
    record { word = w.0.0; parts = parts.parts ∙ ap (λ r. w.0.0 ++ 32 ∷ r) same.1; value = v.1 ∙ ap Some same.0 }

pub word_again : {A : Type 0} (read : List ℕ → Option A) (word rest : List ℕ) (x : A) → IsFree 32 word → read word ≡ Some x →
    word_at read (word ++ 32 ∷ rest) ≡ Some (x, rest)
unfolding word_at
word_again read word rest x free is =
    ap (λ o. o >>= λ w. read w.0 >>= λ v. Some (v, w.1)) (cut_again 32 word rest free)
    ∙ ap (λ o. o >>= λ v. Some (v, rest)) is
