-- Words read one by one from left to right: what was given before a place, and what is left.
use Rattle.tool_words.proofs.Prelude.{◌≡◌, ℕ, suc, ◌+◌, ◌<◌, inl, inr, refl, ap, subst, ◌∙◌, sym, arith, None, List, ◌∷◌, length, drop, map, get_or, drop-cons}
use Rattle.tool_words.proofs.Prelude.{Result, Ok, Err, IsErrAnd, drop-map, Refusal, WordsError, Tool, Tells, Reads, refusal_in, Given, nothing, with_word}
use Rattle.tool_words.proofs.Prelude.{and_then, with_words}
use Rattle.tool_words.specs.declared.errors.WordsError.TheVariants as error

-- the words before a place gave this
pub record Read (tool : Tool) (words : List (List ℕ)) (at : ℕ) (given : Given) : Type 0 where
  pub so : with_words tool 1 words nothing ≡ with_words tool (at + 1) (drop at words) given

-- the word at a place, behind which the others are left
pub word_at : {A : Type 0} (text : A → List ℕ) (xs : List A) (at : ℕ) (x : A) (word : List ℕ) →
    at < length xs → x ≡ get_or xs at x → word ≡ text x → drop at (map text xs) ≡ word ∷ drop (at + 1) (map text xs)
word_at text xs at x word l e w =
    let next : suc at ≡ at + 1 = omega arith in
    drop-map text at xs ∙ ap (map text) (drop-cons xs at x l) ∙ ap (λ t. t ∷ map text (drop (suc at) xs)) (ap text (sym e) ∙ sym w)
    ∙ ap (λ l. word ∷ l) (sym (drop-map text (suc at) xs)) ∙ ap (λ n. word ∷ drop n (map text xs)) next

here : (tool : Tool) (words : List (List ℕ)) (at : ℕ) (given : Given) (word : List ℕ) →
    Read tool words at given → drop at words ≡ word ∷ drop (at + 1) words →
    with_words tool 1 words nothing ≡ and_then (with_word tool given.next given (at + 1) word) (with_words tool (at + 1 + 1) (drop (at + 1) words))
here tool words at given word r d = r.so ∙ ap (λ l. with_words tool (at + 1) l given) d

-- a word that is read adds to what was given
pub more : (tool : Tool) (words : List (List ℕ)) (at : ℕ) (given after : Given) (word : List ℕ) →
    Read tool words at given → drop at words ≡ word ∷ drop (at + 1) words →
    with_word tool given.next given (at + 1) word ≡ Ok after → Read tool words (at + 1) after
more tool words at given after word r d e = record {
  so = here tool words at given word r d ∙ ap (λ w. and_then w (with_words tool (at + 1 + 1) (drop (at + 1) words))) e;
}

-- an error that tells no refusal is want of memory
only_memory : (fault : WordsError) → None ≡ refusal_in fault → fault ≡ error.OutOfMemory
only_memory (error.NoTool word) e = cc
only_memory (error.UnknownTool word) e = cc
only_memory (error.UnknownOption word) e = cc
only_memory (error.NoValue word) e = cc
only_memory (error.BadValue word) e = cc
only_memory (error.NoPath word) e = cc
only_memory (error.TooManyPaths word) e = cc
only_memory (error.Clash word) e = cc
only_memory error.OutOfMemory e = refl

-- what refuses a first reading refuses both
pub tells_both : {X Y : Type 0} (r : Result X Refusal) (next : X → Result Y Refusal) (fault : WordsError) → Tells r fault → Tells (and_then r next) fault
tells_both (Ok x) next fault (inl e) = inr (only_memory fault e)
tells_both (Err refusal) next fault (inl e) = inl e
tells_both r next fault (inr e) = inr e

-- a word that is refused ends the reading
pub refused : (tool : Tool) (words : List (List ℕ)) (at : ℕ) (given : Given) (word : List ℕ) (fault : WordsError) →
    Read tool words at given → drop at words ≡ word ∷ drop (at + 1) words →
    Tells (with_word tool given.next given (at + 1) word) fault → Tells (with_words tool 1 words nothing) fault
refused tool words at given word fault r d t =
    subst (λ w. Tells w fault) (sym (here tool words at given word r d)) (tells_both (with_word tool given.next given (at + 1) word) _ fault t)

-- a reading of which the result tells the refusal
pub refused_by : {X Y : Type 0} (reading : Result Y Refusal) (view : X → Y) (result : Result X WordsError) (fault : WordsError) →
    IsErrAnd result (λ e. e ≡ fault) → Tells reading fault → Reads reading view result
refused_by reading view (Ok x) fault told t = absurd told
refused_by reading view (Err e) fault told t = record { read = tt; refused = subst (Tells reading) (sym told) t }
