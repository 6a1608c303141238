-- The glob relation has the cases that a manual says.
use Rattle.find_tests.proofs.Prelude.{◌≡◌, ℕ, Bool, true, false, ◌||◌, ◌↔◌, List, [], ◌∷◌, ◌++◌, ◌==◌, take, drop, refl, sym, ap, ◌∙◌, subst, Sign, Plain}
use Rattle.find_tests.proofs.Prelude.{Literal, Class, Any, Only, Piece, AnyText, OneOf, signs_of, behind_negation, behind_members, bracket, piece_at}
use Rattle.find_tests.proofs.Prelude.{behind_piece, pieces_of, matches, some_rest, takes, chars_match, FirstAndRest, HasDivision, is_special, GlobByCases}
use Rattle.find_tests.proofs.Prelude.{or_right, or_parts, and_parts, take-append-drop}
use Rattle.find_tests.proofs.Matched.{some_rest_at, some_rest_found}
use Rattle.find_tests.proofs.Parsed.{pieces_of-nil, pieces_of-cons}

nothing_left : (text : List ℕ) → (matches [] text ≡ true) ↔ (text ≡ [])
nothing_left [] = (λ h. refl, λ h. refl)
nothing_left (c ∷ text) = (λ h. absurd (cc h), λ h. absurd (cc h))

some_rest_behind : (test : List ℕ → Bool) (front back : List ℕ) → test back ≡ true → some_rest test (front ++ back) ≡ true
some_rest_behind test [] back h = some_rest_at test 0 back h
some_rest_behind test (c ∷ front) back h = or_right (test (c ∷ front ++ back)) (some_rest test (front ++ back)) (some_rest_behind test front back h)

divided : (k : ℕ) (text : List ℕ) → text ≡ take k text ++ drop k text
divided k text = sym (take-append-drop k text)

any_text : (rest : List Piece) (text : List ℕ) → (matches (AnyText ∷ rest) text ≡ true) ↔ HasDivision (λ t. matches rest t) text
any_text rest text = (
  λ h.
      let found = some_rest_found (λ t. matches rest t) text h in
      record { front = take (found.0) text; back = drop (found.0) text; parts = divided (found.0) text; back_passes = found.1 },
  λ d. subst (λ t. matches (AnyText ∷ rest) t ≡ true) (sym d.parts) (some_rest_behind (λ t. matches rest t) d.front d.back d.back_passes),
)

one_of : (class : Class) (rest : List Piece) (text : List ℕ) →
    (matches (OneOf class ∷ rest) text ≡ true) ↔ FirstAndRest (takes class) (λ t. matches rest t) text
one_of class rest [] = (λ h. absurd (cc h), λ f. absurd (cc (f.parts)))
one_of class rest (c ∷ text) = (
  λ h.
      let parts = and_parts (takes class c) (matches rest text) h in
      record { first = c; rest = text; parts = refl; first_passes = parts.0; then_passes = parts.1 },
  λ f.
      subst (λ t. matches (OneOf class ∷ rest) t ≡ true) (sym f.parts) (rw (f.first_passes) (f.then_passes)),
)

-- what stands at the front of a pattern is a piece of one character
one_first : (s : Sign) (class : Class) (signs behind : List Sign) (text : List ℕ) → piece_at s signs ≡ OneOf class → behind_piece s signs ≡ behind →
    (matches (pieces_of (s ∷ signs)) text ≡ true) ↔ FirstAndRest (takes class) (λ t. matches (pieces_of behind) t) text
one_first s class signs behind text is_class is_behind =
    let step : pieces_of (s ∷ signs) ≡ OneOf class ∷ pieces_of behind = pieces_of-cons s signs
    ∙ ap (λ p. p ∷ pieces_of (behind_piece s signs)) is_class ∙ ap (λ b. OneOf class ∷ pieces_of b) is_behind in
    subst (λ ps. (matches ps text ≡ true) ↔ FirstAndRest (takes class) (λ t. matches (pieces_of behind) t) text) (sym step)
    (one_of class (pieces_of behind) text)

star_first : (rest text : List ℕ) → (chars_match (42 ∷ rest) text ≡ true) ↔ HasDivision (λ t. chars_match rest t) text
star_first rest text =
    subst (λ ps. (matches ps text ≡ true) ↔ HasDivision (λ t. chars_match rest t) text) (sym (pieces_of-cons (Plain 42) (signs_of rest)))
    (any_text (pieces_of (signs_of rest)) text)

literal_first : (c : ℕ) (rest text : List ℕ) → is_special c ≡ false →
    (chars_match (c ∷ rest) text ≡ true) ↔ FirstAndRest (λ d. d == c) (λ t. chars_match rest t) text
literal_first c rest text plain =
    let no_backslash = or_parts (c == 42 || c == 63 || c == 91) (c == 92) plain in
    let no_bracket = or_parts (c == 42 || c == 63) (c == 91) (no_backslash.0) in
    let no_wildcard = or_parts (c == 42) (c == 63) (no_bracket.0) in
    let literal : signs_of (c ∷ rest) ≡ Plain c ∷ signs_of rest = rw (no_backslash.1) refl in
    subst (λ signs. (matches (pieces_of signs) text ≡ true) ↔ FirstAndRest (takes (Only c)) (λ t. chars_match rest t) text) (sym literal)
    (one_first (Plain c) (Only c) (signs_of rest) (signs_of rest) text (rw (no_wildcard.0, no_wildcard.1, no_bracket.1) refl) (rw (no_bracket.1) refl))

pub glob_by_cases : GlobByCases
glob_by_cases = record {
  nothing = λ text. subst (λ ps. (matches ps text ≡ true) ↔ (text ≡ [])) (sym pieces_of-nil) (nothing_left text);
  star = star_first;
  question = λ rest text. one_first (Plain 63) Any (signs_of rest) (signs_of rest) text refl refl;
  literal = literal_first;
  escaped = λ c rest text. one_first (Literal c) (Only c) (signs_of rest) (signs_of rest) text refl refl;
  last_backslash = λ text. one_first (Literal 92) (Only 92) [] [] text refl refl;
  closed = λ rest text closed. one_first (Plain 91) (bracket (signs_of rest)) (signs_of rest) (behind_members (behind_negation (signs_of rest))) text
      (rw closed refl) (rw closed refl);
  not_closed = λ rest text open_end. one_first (Plain 91) (Only 91) (signs_of rest) (signs_of rest) text (rw open_end refl) (rw open_end refl);
}
