-- The glob relation case by case over the characters of a pattern, as a manual says it. Our own, after fnmatch without flags.
use Rattle.std.specs.Prelude.{◌≡◌, ℕ, Bool, true, false, ◌||◌, ◌↔◌, List, [], ◌∷◌, ◌++◌, ◌==◌}
use Rattle.find_tests.specs.Signs.{signs_of}
use Rattle.find_tests.specs.Glob.{is_closed, behind_negation, behind_members, bracket, pieces_of}
use Rattle.find_tests.specs.Matching.{matches, takes, chars_match}

-- a text is one character that passes, and a rest that does
pub record FirstAndRest (passes : ℕ → Bool) (rest_passes : List ℕ → Bool) (text : List ℕ) : Type 0 where
  pub first : ℕ
  pub rest : List ℕ
  pub parts : text ≡ first ∷ rest
  pub first_passes : passes first ≡ true
  pub then_passes : rest_passes rest ≡ true

-- a text has a division of which the second part passes
pub record HasDivision (passes : List ℕ → Bool) (text : List ℕ) : Type 0 where
  pub front : List ℕ
  pub back : List ℕ
  pub parts : text ≡ front ++ back
  pub back_passes : passes back ≡ true

-- the characters with a meaning of their own: `*`, `?`, `[` and the backslash
abbrev pub is_special : ℕ → Bool
is_special c = c == 42 || c == 63 || c == 91 || c == 92

pub record GlobByCases : Type 0 where
  pub nothing : (text : List ℕ) → (chars_match [] text ≡ true) ↔ (text ≡ [])
  pub star : (rest text : List ℕ) → (chars_match (42 ∷ rest) text ≡ true) ↔ HasDivision (λ t. chars_match rest t) text
  pub question : (rest text : List ℕ) → (chars_match (63 ∷ rest) text ≡ true) ↔ FirstAndRest (λ c. true) (λ t. chars_match rest t) text
  pub literal : (c : ℕ) (rest text : List ℕ) → is_special c ≡ false → (chars_match (c ∷ rest) text ≡ true)
      ↔ FirstAndRest (λ d. d == c) (λ t. chars_match rest t) text
  pub escaped : (c : ℕ) (rest text : List ℕ) → (chars_match (92 ∷ c ∷ rest) text ≡ true) ↔ FirstAndRest (λ d. d == c) (λ t. chars_match rest t) text
  pub last_backslash : (text : List ℕ) → (chars_match (92 ∷ []) text ≡ true) ↔ FirstAndRest (λ d. d == 92) (λ t. chars_match [] t) text
  -- a bracket, negated or not, which is closed
  pub closed : (rest text : List ℕ) → is_closed (behind_negation (signs_of rest)) ≡ true → (chars_match (91 ∷ rest) text ≡ true)
      ↔ FirstAndRest (takes (bracket (signs_of rest))) (λ t. matches (pieces_of (behind_members (behind_negation (signs_of rest)))) t) text
  pub not_closed : (rest text : List ℕ) → is_closed (behind_negation (signs_of rest)) ≡ false → (chars_match (91 ∷ rest) text ≡ true)
      ↔ FirstAndRest (λ d. d == 91) (λ t. chars_match rest t) text
