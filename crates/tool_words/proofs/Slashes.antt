-- The slashes at the end of a text, cut off one by one.
use Rattle.tool_words.proofs.Prelude.{◌≡◌, ◌≢◌, ℕ, suc, ◌-◌, true, false, ◌&&◌, cond, refl, ap, ◌∙◌, sym, arith, Option, Some, None, List, [], ◌∷◌, ◌++◌}
use Rattle.tool_words.proofs.Prelude.{length, take, take-append-drop, drop-length, ◌==◌, IfSome, FindsCharSuffix, CutsSuffixes, IsTrimEndMatches, drop_at_char}
use Rattle.tool_words.proofs.Prelude.{strip_suffix_char, nat_tests, is_slash, before_end_slashes, slash_is}

one_more : (text : List ℕ) → before_end_slashes (text ++ 47 ∷ []) ≡ before_end_slashes text
one_more [] = refl
one_more (b ∷ text) = ap (λ r. cond (is_slash b && length r == 0) [] (b ∷ r)) (one_more text)

-- the first byte stays where more stands behind it, or where it is no slash
stays : (b : ℕ) (text : List ℕ) → ((front : List ℕ) → b ∷ text ≢ front ++ 47 ∷ []) → cond (is_slash b && length text == 0) [] (b ∷ text) ≡ b ∷ text
stays b [] h =
    elim (is_slash b) as (λ t. is_slash b ≡ t → cond (t && true) [] (b ∷ []) ≡ b ∷ []) [
      | true ↦ λ e. absurd (h [] (ap (λ c. c ∷ []) (slash_is b e)))
      | false ↦ λ e. refl
    ] refl
stays b (c ∷ text) h =
    elim (is_slash b) as (λ t. cond (t && length (c ∷ text) == 0) [] (b ∷ c ∷ text) ≡ b ∷ c ∷ text) [
      | true ↦ ap (λ t. cond t [] (b ∷ c ∷ text)) (not_empty (length text))
      | false ↦ refl
    ]
  where
    not_empty : (n : ℕ) → (suc n == 0) ≡ false
    not_empty n = grind (arith, nat_tests)

none_more : (text : List ℕ) → ((front : List ℕ) → text ≢ front ++ 47 ∷ []) → before_end_slashes text ≡ text
none_more [] h = refl
none_more (b ∷ text) h =
    ap (λ r. cond (is_slash b && length r == 0) [] (b ∷ r)) (none_more text (λ front e. h (b ∷ front) (ap (λ l. b ∷ l) e)))
    ∙ stays b text h

one_cut : (text : List ℕ) (n : ℕ) → FindsCharSuffix 47 text (Some n) → text ≡ take (length text - n) text ++ 47 ∷ []
one_cut text n h =
    sym (take-append-drop (length text - n) text)
    ∙ ap (λ l. take (length text - n) text ++ l) (drop_at_char 47 text (length text - n) (length text) h.1 (omega arith) ∙ ap (λ l. 47 ∷ l) (drop-length text))

all_cut : (ns text rest : List ℕ) → CutsSuffixes (FindsCharSuffix 47) text ns rest → before_end_slashes text ≡ before_end_slashes rest
all_cut [] text rest e = ap before_end_slashes (sym e)
all_cut (n ∷ ns) text rest h =
    all_cut ns text h.0 h.1 ∙ ap before_end_slashes (one_cut h.0 n h.2) ∙ one_more (take (length h.0 - n) h.0) ∙ ap before_end_slashes (sym h.3)

none_left : (o : Option ℕ) (text : List ℕ) → FindsCharSuffix 47 text o → IfSome o (λ n. n ≡ 0) → before_end_slashes text ≡ text
none_left None text h z = none_more text (strip_suffix_char 47 text None h (omega arith))
none_left (Some n) text h z = absurd (omega (arith, h.0, z))

-- what is left when no slash stands at the end any more
pub cut_off : (text rest : List ℕ) → IsTrimEndMatches (FindsCharSuffix 47) text rest → rest ≡ before_end_slashes text
cut_off text rest h = sym (all_cut h.0.0 text rest h.0.1 ∙ none_left h.1.0 rest h.1.1 h.1.2)
