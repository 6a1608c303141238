-- The lines of a text, and texts of whole lines.
use Rattle.whole_lines.proofs.Prelude.{◌≡◌, ℕ, true, false, cond, eqb, List, [], ◌∷◌, ◌++◌, take, Option, Some, None, refl, ap, sym, ◌∙◌, subst, append_assoc}
use Rattle.whole_lines.proofs.Prelude.{append-nil, AllByRecursion, flat_map, false≢true, line, onto_line, lines_of, onto_word, exact_unsigned_eq}
use Rattle.whole_lines.specs.Words.{cut}
use Rattle.whole_lines.proofs.Words.{IsFree}
use Rattle.whole_lines.proofs.WholeLines.{cons_parts}

pub all_more : {A : Type 0} (P : A → Type 0) (xs : List A) (y : A) → AllByRecursion P xs → P y → AllByRecursion P (xs ++ y ∷ [])
all_more P [] y h p = (p, tt)
all_more P (x ∷ xs) y h p = (h.0, all_more P xs y h.1 p)

-- ---- lines

pub line_first : (word rest : List ℕ) → IsFree 10 word → lines_of (word ++ 10 ∷ rest) ≡ line word ∷ lines_of rest
line_first [] rest free = refl
line_first (b ∷ word) rest free =
    ap (λ t. cond t ((10 ∷ []) ∷ lines_of (word ++ 10 ∷ rest)) (onto_line b (lines_of (word ++ 10 ∷ rest)))) free.0
    ∙ ap (onto_line b) (line_first word rest free.1)

not_free : (word : List ℕ) → IsFree 10 (line word) → ⊥
not_free [] free = false≢true (sym free.0)
not_free (b ∷ word) free = not_free word free.1

pub line_same : (a b : List ℕ) → line a ≡ line b → a ≡ b
line_same [] [] e = refl
line_same [] (y ∷ b) e = absurd (none b (cons_parts 10 y [] (b ++ 10 ∷ []) e).1)
  where
    none : (b : List ℕ) → [] ≡ b ++ 10 ∷ [] → ⊥
    none [] e = cc
    none (y ∷ b) e = cc
line_same (x ∷ a) [] e = absurd (none a (cons_parts x 10 (a ++ 10 ∷ []) [] e).1)
  where
    none : (a : List ℕ) → a ++ 10 ∷ [] ≡ [] → ⊥
    none [] e = cc
    none (y ∷ a) e = cc
line_same (x ∷ a) (y ∷ b) e =
    let parts = cons_parts x y (line a) (line b) e in
    let rest : a ≡ b = line_same a b parts.1 in
    let head : x ≡ y = parts.0 in
    cc

pub free_uncut : (c : ℕ) (text : List ℕ) → cut c text ≡ None → IsFree c text
unfolding cut
free_uncut c [] e = tt
free_uncut c (b ∷ text) e = elim (eqb b c) as (λ t. eqb b c ≡ t → cond t (Some ([], text)) (onto_word b (cut c text)) ≡ None → IsFree c (b ∷ text)) [
  | true ↦ λ is e. absurd cc
  | false ↦ λ is e. (is, free_uncut c text (uncut (cut c text) e))
] refl e
  where
    uncut : (o : Option (List ℕ × List ℕ)) → onto_word b o ≡ None → o ≡ None
    uncut None e = refl
    uncut (Some p) e = absurd cc

-- a text without a line feed has no whole line
pub torn : (text word : List ℕ) → IsFree 10 text → take 1 (lines_of text) ≡ line word ∷ [] → ⊥
torn [] word free e = cc
torn (b ∷ text) word free e =
    let one : lines_of (b ∷ text) ≡ (b ∷ text) ∷ [] = one_line b text free in
    let same : b ∷ text ≡ line word = (cons_parts (b ∷ text) (line word) [] [] (ap (take 1) (sym one) ∙ e)).0 in
    not_free word (subst (IsFree 10) same free)
  where
    one_line : (b : ℕ) (text : List ℕ) → IsFree 10 (b ∷ text) → lines_of (b ∷ text) ≡ (b ∷ text) ∷ []
    one_line b [] free = ap (λ t. cond t ((10 ∷ []) ∷ []) ((b ∷ []) ∷ [])) free.0
    one_line b (d ∷ text) free =
        ap (λ t. cond t ((10 ∷ []) ∷ lines_of (d ∷ text)) (onto_line b (lines_of (d ∷ text)))) free.0
        ∙ ap (onto_line b) (one_line d text free.1)

-- lines, joined, are the text
pub joined_lines : (bytes : List ℕ) → flat_map (λ l. l) (lines_of bytes) ≡ bytes
joined_lines [] = refl
joined_lines (b ∷ bytes) = elim (eqb b 10) as
    (λ t. eqb b 10 ≡ t → flat_map (λ l. l) (cond t ((10 ∷ []) ∷ lines_of bytes) (onto_line b (lines_of bytes))) ≡ b ∷ bytes) [
      | true ↦ λ is. ap (λ l. 10 ∷ l) (joined_lines bytes) ∙ ap (λ b. b ∷ bytes) (sym (exact_unsigned_eq b 10 is))
      | false ↦ λ is. onto b (lines_of bytes) ∙ ap (λ l. b ∷ l) (joined_lines bytes)
    ] refl
  where
    onto : (b : ℕ) (ls : List (List ℕ)) → flat_map (λ l. l) (onto_line b ls) ≡ b ∷ flat_map (λ l. l) ls
    onto b [] = refl
    onto b (l ∷ ls) = refl

pub no_lines : (bytes : List ℕ) → lines_of bytes ≡ [] → bytes ≡ []
no_lines bytes e = sym (joined_lines bytes) ∙ ap (flat_map (λ l. l)) e

-- ---- texts of whole lines

-- a line with its line feed, and no other in it
pub record IsWhole (l : List ℕ) : Type 0 where
  pub text : List ℕ
  pub is : l ≡ line text
  pub free : IsFree 10 text

pub lines_first : (ls : List (List ℕ)) (rest : List ℕ) → AllByRecursion IsWhole ls → lines_of (flat_map (λ l. l) ls ++ rest) ≡ ls ++ lines_of rest
lines_first [] rest h = refl
lines_first (l ∷ ls) rest h =
    let w = h.0 in
    let tail = flat_map (λ l. l) ls ++ rest in
    let parts : (l ++ flat_map (λ l. l) ls) ++ rest ≡ w.text ++ 10 ∷ tail =
    append_assoc l (flat_map (λ l. l) ls) rest ∙ ap (λ l. l ++ tail) w.is ∙ append_assoc w.text (10 ∷ []) tail in
    ap lines_of parts ∙ line_first w.text tail w.free ∙ (λ i. sym w.is i ∷ lines_first ls rest h.1 i)

pub flat_end : (xs : List (List ℕ)) (l : List ℕ) → flat_map (λ l. l) (xs ++ l ∷ []) ≡ flat_map (λ l. l) xs ++ l
flat_end [] l = append-nil l
flat_end (x ∷ xs) l = ap (λ t. x ++ t) (flat_end xs l) ∙ sym (append_assoc x (flat_map (λ l. l) xs) l)
