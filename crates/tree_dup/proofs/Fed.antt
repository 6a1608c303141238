-- A file that is hashed piece by piece.
use Rattle.tree_dup.proofs.Prelude.{◌≡◌, ℕ, zero, suc, ◌+◌, ◌-◌, ◌<◌, ◌≤◌, List, [], ◌∷◌, length, take, drop, min, Option, Some, None, IfSome, refl, sym, ap}
use Rattle.tree_dup.proofs.Prelude.{subst, ◌∙◌, arith, take_all, drop-drop, length-drop, nil_from_length, get, initial, write, finish, FoldHasher, RoseBy}
use Rattle.tree_dup.proofs.Prelude.{Files, content, fed_all, content_hash, Fills, IsFileOf, IsShort}
use Rattle.tree_dup.specs.Private.Hashing.{fed}

-- ---- a hasher that takes pieces of 64 KiB

-- it does not matter how many more pieces it may take
fed_enough : (m n : ℕ) (hasher : FoldHasher) (bytes : List ℕ) → length bytes ≤ m → length bytes ≤ n → fed m hasher bytes ≡ fed n hasher bytes
unfolding fed
fed_enough zero zero hasher bytes l k = refl
fed_enough zero (suc n) hasher [] l k = refl
fed_enough zero (suc n) hasher (b ∷ bytes) l k = absurd (omega arith)
fed_enough (suc m) zero hasher [] l k = refl
fed_enough (suc m) zero hasher (b ∷ bytes) l k = absurd (omega arith)
fed_enough (suc m) (suc n) hasher [] l k = refl
fed_enough (suc m) (suc n) hasher (b ∷ bytes) l k =
    let left : length (drop 65536 (b ∷ bytes)) + 1 ≤ length (b ∷ bytes) = shorter (b ∷ bytes) (omega arith) in
    fed_enough m n (write hasher (take 65536 (b ∷ bytes))) (drop 65536 (b ∷ bytes)) (omega arith) (omega arith)
  where
    shorter : (xs : List ℕ) → 0 < length xs → length (drop 65536 xs) + 1 ≤ length xs
    shorter xs some = omega (arith, some, length-drop 65536 xs)

fed_next : (hasher : FoldHasher) (bytes : List ℕ) → 0 < length bytes → fed_all hasher bytes ≡ fed_all (write hasher (take 65536 bytes)) (drop 65536 bytes)
unfolding fed
fed_next hasher [] some = absurd (omega arith)
fed_next hasher (b ∷ bytes) some =
    fed_enough (length bytes) (length (drop 65536 (b ∷ bytes))) (write hasher (take 65536 (b ∷ bytes))) (drop 65536 (b ∷ bytes))
    (omega (arith, length-drop 65536 (b ∷ bytes))) (omega arith)

-- the last piece is shorter
same_take : (n : ℕ) (bytes : List ℕ) → n ≡ min (length bytes) 65536 → take n bytes ≡ take 65536 bytes
same_take n bytes e = by (length bytes - 65536) refl
  where
    by : (k : ℕ) → length bytes - 65536 ≡ k → take n bytes ≡ take 65536 bytes
    by zero z = take_all n bytes (omega (arith, e, z)) ∙ sym (take_all 65536 bytes (omega (arith, z)))
    by (suc k) z = ap (λ m. take m bytes) (let whole : n ≡ 65536 = omega (arith, e, z) in whole)

same_drop : (n : ℕ) (bytes : List ℕ) → n ≡ min (length bytes) 65536 → drop n bytes ≡ drop 65536 bytes
same_drop n bytes e = by (length bytes - 65536) refl
  where
    by : (k : ℕ) → length bytes - 65536 ≡ k → drop n bytes ≡ drop 65536 bytes
    by zero z = nil_from_length (drop n bytes) (omega (arith, e, z, length-drop n bytes))
        ∙ sym (nil_from_length (drop 65536 bytes) (omega (arith, z, length-drop 65536 bytes)))
    by (suc k) z = ap (λ m. drop m bytes) (let whole : n ≡ 65536 = omega (arith, e, z) in whole)

-- what was hashed so far, and what is left
abbrev pub Fed : Option Files → List ℕ → ℕ → ℕ → FoldHasher → Type 0
Fed told path size at hasher = IfSome told (λ files. IsFileOf (get files path) size →
    fed_all initial (content (get files path)) ≡ fed_all hasher (drop at (content (get files path))))

pub fed_none : (told : Option Files) (path : List ℕ) (size : ℕ) (hasher : FoldHasher) → hasher ≡ initial → Fed told path size 0 hasher
fed_none None path size hasher h = tt
fed_none (Some files) path size hasher h = λ f. ap (λ start. fed_all start (content (get files path))) (sym h)

pub fed_more : (told now : Option Files) (path : List ℕ) (size at n : ℕ) (old new : FoldHasher) → now ≡ told → at < size → n ≡ min (size - at) 65536 →
    Fed told path size at old → IfSome now (λ files. new ≡ write old (take n (drop at (content (get files path))))) → Fed told path size (at + n) new
fed_more told now path size at n old new same l e h f =
    by told h (subst (λ t. IfSome t (λ files. new ≡ write old (take n (drop at (content (get files path)))))) same f)
  where
    by : (t : Option Files) → Fed t path size at old → IfSome t (λ files. new ≡ write old (take n (drop at (content (get files path))))) →
        Fed t path size (at + n) new
    by None h f = tt
    by (Some files) h f = λ is.
        let left = drop at (content (get files path)) in
        let long : length left ≡ size - at = omega (arith, is.size, length-drop at (content (get files path))) in
        let piece : n ≡ min (length left) 65536 = e ∙ ap (λ k. min k 65536) (sym long) in
        let next : fed_all old left ≡ fed_all (write old (take 65536 left)) (drop 65536 left) = fed_next old left (omega (arith, long, l)) in
        let taken : write old (take 65536 left) ≡ new = ap (write old) (sym (same_take n left piece)) ∙ sym f in
        let rest : drop 65536 left ≡ drop (at + n) (content (get files path)) =
        sym (same_drop n left piece) ∙ drop-drop n at (content (get files path)) in
        h is ∙ next ∙ (λ i. fed_all (taken i) (rest i))

pub hashed : (told : Option Files) (path : List ℕ) (size at : ℕ) (hasher : FoldHasher) (hash : ℕ) → size ≤ at → Fed told path size at hasher →
    hash ≡ finish hasher → IfSome told (λ files. IsFileOf (get files path) size → hash ≡ content_hash (content (get files path)))
unfolding fed
hashed None path size at hasher hash l h ends = tt
hashed (Some files) path size at hasher hash l h ends = λ is.
    let bytes = content (get files path) in
    let none : drop at bytes ≡ [] = nil_from_length (drop at bytes) (omega (arith, l, is.size, length-drop at bytes)) in
    ends ∙ ap finish (sym (h is ∙ ap (fed_all hasher) none))

-- a file that is shorter than its size is none of that size
pub not_short : (told now : Option Files) (path : List ℕ) (size at n : ℕ) → now ≡ told → at + n ≤ size →
    IfSome now (λ files. IsShort (get files path) (at + n)) →
    IfSome told (λ files. IsFileOf (get files path) size → ⊥)
not_short told now path size at n same l h = by told (subst (λ t. IfSome t (λ files. IsShort (get files path) (at + n))) same h)
  where
    by : (t : Option Files) → IfSome t (λ files. IsShort (get files path) (at + n)) → IfSome t (λ files. IsFileOf (get files path) size → ⊥)
    by None h = tt
    by (Some files) h = λ f. let s = f.size in let short = h f.is_file in omega (arith, short, s, l)

pub count_more : (k old mid new : ℕ) → RoseBy 0 old mid → RoseBy k mid new → RoseBy k old new
count_more k old mid new f g = record { kept = omega (arith, f.kept, g.kept); rose = omega (arith, f.kept, g.rose) }

-- what was read of a piece is fed
pub fed_piece : (told : Option Files) (path : List ℕ) (at room : ℕ) (into : List ℕ) (old new : FoldHasher) → length into ≡ room →
    IfSome told (λ files. Fills (get files path) at into) → new ≡ write old into →
    IfSome told (λ files. new ≡ write old (take room (drop at (content (get files path)))))
fed_piece None path at room into old new l h f = tt
fed_piece (Some files) path at room into old new l h f =
    f ∙ ap (write old) (h.same ∙ ap (λ n. take n (drop at (content (get files path)))) l)
