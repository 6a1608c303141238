-- From the front of a pattern's pieces to the whole: a later `*` makes up for a longer front of an earlier one.
use Rattle.find_tests.proofs.Prelude.{◌≡◌, ℕ, zero, suc, ◌+◌, Bool, true, false, ◌&&◌, inl, inr, List, [], ◌∷◌, length, drop, refl, sym, ap, ◌∙◌, subst, arith}
use Rattle.find_tests.proofs.Prelude.{both_ways, or_right, or_cases, and_parts, nil_from_length, drop-drop, Class, Piece, AnyText, OneOf, some_rest, matches}
use Rattle.find_tests.proofs.Prelude.{takes_first}

-- an answer that leads to a false one is false
false_before : (a b : Bool) → (a ≡ true → b ≡ true) → b ≡ false → a ≡ false
false_before true b f e = sym (f refl) ∙ e
false_before false b f e = refl

drop_one : (k : ℕ) (text : List ℕ) → drop 1 (drop k text) ≡ drop k (drop 1 text)
drop_one k text =
    let same : k + 1 ≡ 1 + k = omega arith in
    drop-drop 1 k text ∙ ap (λ n. drop n text) same ∙ sym (drop-drop k 1 text)

pub some_rest_at : (test : List ℕ → Bool) (k : ℕ) (text : List ℕ) → test (drop k text) ≡ true → some_rest test text ≡ true
some_rest_at test zero [] h = h
some_rest_at test (suc k) [] h = h
some_rest_at test zero (c ∷ text) h = rw h refl
some_rest_at test (suc k) (c ∷ text) h = or_right (test (c ∷ text)) (some_rest test text) (some_rest_at test k text h)

pub some_rest_found : (test : List ℕ → Bool) (text : List ℕ) → some_rest test text ≡ true → (k : ℕ) × (test (drop k text) ≡ true)
some_rest_found test [] h = (0, h)
some_rest_found test (c ∷ text) h =
    elim (or_cases (test (c ∷ text)) (some_rest test text) h) [
      | inl here ↦ (0, here)
      | inr later ↦ let found = some_rest_found test text later in (suc (found.0), found.1)
    ]

-- a piece of one character and a rest, in terms of the first character
matches_one : (class : Class) (behind : List Piece) (text : List ℕ) →
    matches (OneOf class ∷ behind) text ≡ (takes_first class text && matches behind (drop 1 text))
matches_one class behind [] = refl
matches_one class behind (c ∷ text) = refl

-- the first pieces, each of one character, are passed: what is left decides, behind any front of the text
pub record Follows (pieces left : List Piece) (text rest : List ℕ) : Type 0 where
  pub onward : (k : ℕ) → matches pieces (drop k text) ≡ true → matches left (drop k rest) ≡ true
  pub back : matches left rest ≡ true → matches pieces text ≡ true

pub follows_one : (pieces : List Piece) (class : Class) (behind : List Piece) (text rest : List ℕ) → Follows pieces (OneOf class ∷ behind) text rest →
    takes_first class rest ≡ true → Follows pieces behind text (drop 1 rest)
follows_one pieces class behind text rest f taken = record {
  onward = λ k h.
      let whole = rw (matches_one class behind (drop k rest)) at (f.onward k h) in
      subst (λ t. matches behind t ≡ true) (drop_one k rest) (and_parts (takes_first class (drop k rest)) (matches behind (drop 1 (drop k rest))) whole).1;
  back = λ h. f.back (rw (matches_one class behind rest, taken) h);
}

pub fails_from : (pieces left : List Piece) (text rest : List ℕ) → Follows pieces left text rest → matches left rest ≡ false → matches pieces text ≡ false
fails_from pieces left text rest f e = false_before (matches pieces text) (matches left rest) (f.onward 0) e

pub fails_at : (pieces : List Piece) (class : Class) (behind : List Piece) (text rest : List ℕ) → Follows pieces (OneOf class ∷ behind) text rest →
    takes_first class rest ≡ false → matches pieces text ≡ false
fails_at pieces class behind text rest f e = fails_from pieces (OneOf class ∷ behind) text rest f (rw (matches_one class behind rest, e) refl)

pub fails_with_more : (pieces left : List Piece) (text rest behind : List ℕ) (c : ℕ) → Follows pieces left text rest → length left ≡ 0 → rest ≡ c ∷ behind →
    matches pieces text ≡ false
fails_with_more pieces left text rest behind c f none more =
    fails_from pieces left text rest f (ap (λ t. matches left t) more ∙ ap (λ ps. matches ps (c ∷ behind)) (nil_from_length left none))

-- up to a `*`
pub alone_at_star : (pieces behind : List Piece) (text rest : List ℕ) → Follows pieces (AnyText ∷ behind) text rest →
    matches pieces text ≡ matches (AnyText ∷ behind) rest
alone_at_star pieces behind text rest f = both_ways (matches pieces text) (matches (AnyText ∷ behind) rest) (f.onward 0) f.back

-- what an earlier `*` takes more, the later one can take
pub starred_at_star : (pieces behind : List Piece) (text rest : List ℕ) → Follows pieces (AnyText ∷ behind) text rest →
    matches (AnyText ∷ pieces) text ≡ matches (AnyText ∷ behind) rest
starred_at_star pieces behind text rest f =
    both_ways (matches (AnyText ∷ pieces) text) (matches (AnyText ∷ behind) rest)
    (λ h.
    let first = some_rest_found (λ t. matches pieces t) text h in
    let second = some_rest_found (λ t. matches behind t) (drop (first.0) rest) (f.onward (first.0) first.1) in
    some_rest_at (λ t. matches behind t) (first.0 + second.0) rest (subst (λ t. matches behind t ≡ true) (drop-drop (second.0) (first.0) rest) second.1))
    (λ h. some_rest_at (λ t. matches pieces t) 0 text (f.back h))

pub star_whole : (pieces : List Piece) (text : List ℕ) → matches pieces text ≡ true → matches (AnyText ∷ pieces) text ≡ true
star_whole pieces text h = some_rest_at (λ t. matches pieces t) 0 text h
