-- Two texts that begin with the same words.
use Rattle.path_text.proofs.Prelude.{◌≡◌, ℕ, ◌+◌, ◌-◌, ◌<◌, ◌≤◌, List, [], ◌∷◌, ◌++◌, length, take, drop, get_or, refl, ap, ◌∙◌, sym, arith, suc, zero, lit<}
use Rattle.path_text.proofs.Prelude.{from_be_bytes, w64, be_bytes_8, take-append-drop, take_all, length-take-le, take-add, path_cmp}
use Rattle.std.proofs.lemmas.List.{length-drop}
use Rattle.path_text.proofs.Preorder.{self_equal}

pub behind : (p x y : List ℕ) → path_cmp (p ++ x) (p ++ y) ≡ path_cmp x y
behind [] x y = refl
behind (a ∷ p) x y = self_equal a (path_cmp (p ++ x) (p ++ y)) ∙ behind p x y

past_same : (a b : List ℕ) (k : ℕ) → take k a ≡ take k b → path_cmp (drop k a) (drop k b) ≡ path_cmp a b
past_same a b k e =
    sym (behind (take k a) (drop k a) (drop k b)) ∙ ap (λ x. path_cmp x (take k a ++ drop k b)) (take-append-drop k a)
    ∙ ap (λ t. path_cmp a (t ++ drop k b)) e ∙ ap (path_cmp a) (take-append-drop k b)

pub rest_of : (a : List ℕ) (k : ℕ) → take (length a - k) (drop k a) ≡ drop k a
rest_of a k = take_all (length a - k) (drop k a) (omega (arith, length-drop k a))

-- what stands behind the same bytes decides
pub past_words : (a b : List ℕ) (k : ℕ) → take k a ≡ take k b → path_cmp (take (length a - k) (drop k a)) (take (length b - k) (drop k b)) ≡ path_cmp a b
past_words a b k e = (λ i. path_cmp (rest_of a k i) (rest_of b k i)) ∙ past_same a b k e

-- the same word is the same eight bytes
same_bytes : (x y : List ℕ) → length x ≡ 8 → length y ≡ 8 → ((i : ℕ) → get_or x i 0 < 256) → ((i : ℕ) → get_or y i 0 < 256) →
    from_be_bytes w64 x ≡ from_be_bytes w64 y → x ≡ y
same_bytes x y l m f g e = sym (be_bytes_8 x (from_be_bytes w64 x) l f refl) ∙ be_bytes_8 y (from_be_bytes w64 x) m g e

word_len : (a : List ℕ) (at : ℕ) → at + 8 ≤ length a → length (take 8 (drop at a)) ≡ 8
word_len a at h = length-take-le 8 (drop at a) (omega (arith, length-drop at a))

all_take : (xs : List ℕ) (n : ℕ) → ((i : ℕ) → get_or xs i 0 < 256) → (i : ℕ) → get_or (take n xs) i 0 < 256
all_take xs zero h i = lit< tt
all_take [] (suc n) h i = lit< tt
all_take (x ∷ xs) (suc n) h zero = h zero
all_take (x ∷ xs) (suc n) h (suc i) = all_take xs n (λ j. h (suc j)) i

all_drop : (xs : List ℕ) (n : ℕ) → ((i : ℕ) → get_or xs i 0 < 256) → (i : ℕ) → get_or (drop n xs) i 0 < 256
all_drop xs zero h i = h i
all_drop [] (suc n) h i = lit< tt
all_drop (x ∷ xs) (suc n) h i = all_drop xs n (λ j. h (suc j)) i

-- one more word is the same
pub next_word : (a b : List ℕ) (at : ℕ) → at + 8 ≤ length a → at + 8 ≤ length b → ((i : ℕ) → get_or a i 0 < 256) → ((i : ℕ) → get_or b i 0 < 256) →
    take at a ≡ take at b →
    from_be_bytes w64 (take 8 (drop at a)) ≡ from_be_bytes w64 (take 8 (drop at b)) → take (at + 8) a ≡ take (at + 8) b
next_word a b at l m f g e w =
    let word = same_bytes (take 8 (drop at a)) (take 8 (drop at b)) (word_len a at l) (word_len b at m) (all_take (drop at a) 8 (all_drop a at f))
    (all_take (drop at b) 8 (all_drop b at g)) w in
    take-add at 8 a ∙ (λ i. e i ++ word i) ∙ sym (take-add at 8 b)
