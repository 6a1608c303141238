-- Where a bracket is not closed, none behind it is.
use Rattle.find_tests.proofs.Prelude.{◌≡◌, Bool, true, false, cond, List, [], ◌∷◌, drop, refl, sym, subst, false≢true, Sign, is_sign, has_close, is_closed}
use Rattle.find_tests.proofs.Prelude.{behind_negation, NoneCloses}

none_behind : (s : Sign) (rest : List Sign) → has_close (s ∷ rest) ≡ false → has_close rest ≡ false
none_behind s rest e = by_test (is_sign 93 s) e
  where
    by_test : (b : Bool) → cond b true (has_close rest) ≡ false → has_close rest ≡ false
    by_test true e = absurd (false≢true (sym e))
    by_test false e = e

none_later : (signs : List Sign) → has_close (drop 1 signs) ≡ false → has_close (drop 2 signs) ≡ false
none_later (s ∷ t ∷ rest) e = none_behind t rest e
none_later _ e = refl

-- no bracket that begins before them is closed
none_closed : (signs : List Sign) → has_close (drop 1 signs) ≡ false → is_closed (behind_negation signs) ≡ false
none_closed [] e = refl
none_closed (s ∷ rest) e = by_test (is_sign 33 s)
  where
    tail : (rest : List Sign) → has_close rest ≡ false → is_closed rest ≡ false
    tail [] e = refl
    tail (t ∷ rest) e = none_behind t rest e

    by_test : (b : Bool) → is_closed (cond b rest (s ∷ rest)) ≡ false
    by_test true = tail rest e
    by_test false = e

-- and none behind one that is not
none_after : (signs : List Sign) → is_closed (behind_negation signs) ≡ false → has_close (drop 2 signs) ≡ false
none_after [] e = refl
none_after (s ∷ []) e = refl
none_after (s ∷ t ∷ rest) e = by_test (is_sign 33 s) e
  where
    by_test : (b : Bool) → is_closed (cond b (t ∷ rest) (s ∷ t ∷ rest)) ≡ false → has_close rest ≡ false
    by_test true e = e
    by_test false e = none_behind t rest e

-- the same, as the code remembers it
pub still_none : (may : Bool) (signs : List Sign) → NoneCloses may 1 signs → NoneCloses may 2 signs
still_none true signs h = tt
still_none false signs h = none_later signs h

pub not_tried : (may : Bool) (signs : List Sign) → NoneCloses may 1 signs → may ≡ false → is_closed (behind_negation signs) ≡ false
not_tried may signs h e = none_closed signs (subst (λ b. NoneCloses b 1 signs) e h)

pub none_any_more : (may : Bool) (signs : List Sign) → is_closed (behind_negation signs) ≡ false → may ≡ false → NoneCloses may 2 signs
none_any_more may signs h e = subst (λ b. NoneCloses b 2 signs) (sym e) (none_after signs h)

pub passed_one : (may : Bool) (s : Sign) (old new : List Sign) → NoneCloses may 2 old → old ≡ s ∷ new → NoneCloses may 1 new
passed_one may s old new h e = subst (λ l. NoneCloses may 1 (drop 1 l)) e (onto_tail may old h)
  where
    onto_tail : (may : Bool) (old : List Sign) → NoneCloses may 2 old → NoneCloses may 1 (drop 1 old)
    onto_tail true old h = tt
    onto_tail false [] h = refl
    onto_tail false (s ∷ old) h = h

pub ruleset closings = (still_none, not_tried, none_any_more, passed_one)
